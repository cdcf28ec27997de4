use Rattle.std.proofs.Common.{arith, sym, ◌∙◌}
use Rattle.std.proofs.lemmas.List.{length-map}
use Rattle.std.proofs.lemmas.Option.{slice_get_past}
use Rattle.dw_games.specs.inner.Branches.{positions_of}
use Rattle.dw_games.proofs.BranchLemmas.{position_at}
use Rattle.dw_games.proofs.TreeLemmas.{position_found}
use Rattle.dw_games.proofs.tree.Tree.position.Goals as goal

pub returns-in_err-get-in-Some : goal.returns-in_err-get-in-Some
returns-in_err-get-in-Some g c =
    let h = rw c.deref.ensures.value at c.in_err-get-in-Some.ensures.lookup in
    let branches = c.self.inside.branches.items in
    rw (c.from_residual.ensures, ← c.self.view_is, c.in-Some.is) (sym (slice_get_past (positions_of branches)
    c.in-Some.node.0 (omega (arith, h.3, length-map branches (λ b. b.position))))
    ∙ position_found _ _ branches c.self.invariant c.in-Some.node.0)

pub returns-in_ok-get-in-Some : goal.returns-in_ok-get-in-Some
returns-in_ok-get-in-Some g c =
    let h = rw c.deref.ensures.value at c.in_ok-get-in-Some.ensures.lookup in
    let branches = c.self.inside.branches.items in
    rw (← c.self.view_is, c.in-Some.is) (sym (position_at branches c.in-Some.node.0 c.in_ok-get-in-Some.field-0.now
    h.3.0 h.1) ∙ position_found _ _ branches c.self.invariant c.in-Some.node.0)
