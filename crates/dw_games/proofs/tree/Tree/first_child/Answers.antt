use Rattle.dw_games.specs.Walk.{place_of}
use Rattle.dw_games.proofs.TreeLemmas.{first_clause}
use Rattle.dw_games.proofs.tree.Tree.first_child.Goals as goal

pub returns : goal.returns
returns g c = rw (← c.self.view_is) (first_clause _ _ _ c.self.invariant.hang (place_of c.args.node)
    c.first_child.result (rw c.as_slice.ensures.value at c.first_child.ensures))
