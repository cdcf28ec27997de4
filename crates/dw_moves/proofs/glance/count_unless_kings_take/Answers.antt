use Rattle.std.proofs.Common.{sym, ◌∙◌, refl, inl, inr}
use Rattle.std.proofs.lemmas.Bool.{true≢false}
use Rattle.dw_moves.proofs.FirstJumpLemmas.{takes_capture, capture_takes}
use Rattle.dw_moves.proofs.GlanceRunLemmas.{kings_take_is, takes_by}
use Rattle.dw_moves.proofs.glance.count_unless_kings_take.Goals as goal

pub returns-then-slide_to_take-clause-none : goal.returns-then-slide_to_take-clause-none
returns-then-slide_to_take-clause-none g c =
    let f = c.args.field.now in
    let h = kings_take_is g.B.Board.geometry f.men f.kings f.enemies f.occupied
    (c.slide_to_take.ensures.0 c.if-slide_to_take.true) in (
      (λ _. takes_capture g.met.B.Board.numbers c.requires.sets h.0 h.1),
      (λ _. refl),
    )

pub returns-else-slide_to_take-clause-none : goal.returns-else-slide_to_take-clause-none
returns-else-slide_to_take-clause-none g c =
    let f = c.args.field.now in (
      (λ e. absurd (true≢false e)),
      (λ h. elim (takes_by g.B.Board.geometry f.men f.kings f.enemies f.occupied
          (capture_takes g.met.B.Board.numbers c.requires.sets h)) [
            | inl m ↦ absurd (c.requires.men m.0 m.1 m.2)
            | inr k ↦ absurd (true≢false (sym (c.slide_to_take.ensures.1 k) ∙ c.if-slide_to_take.false))
          ]),
    )
