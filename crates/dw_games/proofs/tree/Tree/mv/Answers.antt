use Rattle.std.proofs.Common.{arith}
use Rattle.dw_games.proofs.BranchLemmas.{step_at, steps_length}
use Rattle.dw_games.proofs.PathLemmas.{at_member}
use Rattle.dw_games.proofs.TreeLemmas.{gone_clause, move_clause}
use Rattle.dw_games.proofs.tree.Tree.mv.Goals as goal

pub returns-in_err-get : goal.returns-in_err-get
returns-in_err-get g c =
    let h = rw c.deref.ensures.value at c.in_err-get.ensures.lookup in
    rw (c.from_residual.ensures, ← c.self.view_is) (gone_clause _ _ _ c.self.invariant.hang c.args.node.0
    (omega (arith, h.3, steps_length c.self.inside.branches.items)))

pub returns : goal.returns
returns g c =
    let h = rw c.deref.ensures.value at c.in_ok-get.ensures.lookup in
    let there = move_clause _ _ _ c.self.invariant.hang c.args.node.0 _ _
    (step_at c.self.inside.branches.items c.args.node.0 c.in_ok-get.field-0.now h.3.0 h.1) in
    rw (← c.self.view_is) (there.0, there.1, c.self.invariant.played there.0 _ (at_member _ _ _ there.1))
