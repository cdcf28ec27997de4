use Rattle.std.proofs.Common.{arith}
use Rattle.dw_games.specs.Walk.{place_of}
use Rattle.dw_games.proofs.BranchLemmas.{step_at, steps_length}
use Rattle.dw_games.proofs.TreeLemmas.{parent_clause, no_parent}
use Rattle.dw_games.proofs.tree.Tree.parent.Goals as goal

pub returns-in_err-get : goal.returns-in_err-get
returns-in_err-get g c =
    let h = rw c.deref.ensures.value at c.in_err-get.ensures.lookup in
    rw (← c.self.view_is) (no_parent _ _ _ c.self.invariant.hang c.args.node.0
    (omega (arith, h.3, steps_length c.self.inside.branches.items)) (place_of c.from_residual.result))

pub returns : goal.returns
returns g c =
    let h = rw c.deref.ensures.value at c.in_ok-get.ensures.lookup in
    rw (← c.self.view_is) (parent_clause _ _ _ c.self.invariant.hang c.args.node.0
    (place_of c.in_ok-get.field-0.now.parent) _
    (step_at c.self.inside.branches.items c.args.node.0 c.in_ok-get.field-0.now h.3.0 h.1))
