use Rattle.std.proofs.Common.{sym, ◌∙◌, inl, inr}
use Rattle.std.proofs.lemmas.Bool.{cases_Bool, not_from_false, not_from_true, true≢false}
use Rattle.dw_moves.specs.inner.MoveLemmas.{same_moves, same_moves-is}
use Rattle.dw_moves.proofs.shared.TwinAim.is_met.Goals as goal

pub returns-then-has_ends_of : goal.returns-then-has_ends_of
returns-then-has_ends_of g c =
    let own = c.args.self.now.mv.now in
    let same = same_moves c.args.mv.now own in
    let is = same_moves-is c.args.mv.now own in
    let ends = c.has_ends_of.ensures.0 c.if-has_ends_of.true in (
      (λ e. (ends.0, ends.1, (λ s. true≢false (sym e ∙ (c.ne.ensures ∙ not_from_true same (is.1 s)))))),
      (λ t. elim (cases_Bool same) [
        | inl s ↦ absurd (t.2 (is.0 s))
        | inr differs ↦ c.ne.ensures ∙ not_from_false same differs
      ]),
    )
