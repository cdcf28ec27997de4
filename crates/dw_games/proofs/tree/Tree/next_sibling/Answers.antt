use Rattle.dw_games.specs.Walk.{place_of}
use Rattle.dw_games.proofs.TreeLemmas.{next_none, next_clause}
use Rattle.dw_games.proofs.tree.Tree.next_sibling.Goals as goal

pub returns-clause-none : goal.returns-clause-none
returns-clause-none g c = rw (← c.self.view_is) (next_none _ _ _ c.self.invariant.hang _ c.args.node.0 _
    (rw c.as_slice.ensures.value at c.next_sibling.ensures))

pub returns-clause-next : goal.returns-clause-next
returns-clause-next g c = rw (← c.self.view_is) (next_clause _ _ _ c.self.invariant.hang _ c.args.node.0
    (place_of c.next_sibling.result) (rw c.as_slice.ensures.value at c.next_sibling.ensures))
