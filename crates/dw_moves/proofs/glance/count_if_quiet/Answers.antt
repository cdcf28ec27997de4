use Rattle.std.proofs.Common.{sym, ◌∙◌, refl, inl, inr}
use Rattle.std.proofs.lemmas.Bool.{true≢false}
use Rattle.dw_moves.proofs.FirstJumpLemmas.{takes_capture, capture_takes}
use Rattle.dw_moves.proofs.GlanceRunLemmas.{men_take_is, no_kings_take, takes_by}
use Rattle.dw_moves.proofs.SquareSetLemmas.{in_none}
use Rattle.dw_moves.proofs.glance.count_if_quiet.Goals as goal

pub returns-then-men_take-clause-none : goal.returns-then-men_take-clause-none
returns-then-men_take-clause-none g c =
    let f = c.of-field.result in
    let h = men_take_is g.B.Board.geometry f.men f.kings f.enemies f.occupied
    (c.men_take.ensures.0 c.if-men_take.true) in (
      (λ _. takes_capture g.met.B.Board.numbers c.of-field.ensures.sets h.0 h.1),
      (λ _. refl),
    )

pub returns-then-is_empty-clause-none : goal.returns-then-is_empty-clause-none
returns-then-is_empty-clause-none g c =
    let f = c.of-field.result in (
      (λ e. absurd (true≢false e)),
      (λ h. elim (takes_by g.B.Board.geometry f.men f.kings f.enemies f.occupied
          (capture_takes g.met.B.Board.numbers c.of-field.ensures.sets h)) [
            | inl m ↦ absurd (true≢false (sym (c.men_take.ensures.1 m) ∙ c.if-men_take.false))
            | inr k ↦ absurd (no_kings_take g.B.Board.geometry f.kings f.enemies f.occupied
                (λ s i. in_none f.kings s (c.is_empty.ensures.0 c.if-is_empty.true) i) k)
          ]),
    )
