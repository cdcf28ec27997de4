use Rattle.std.proofs.Common.{sym, ◌∙◌, inl, inr}
use Rattle.std.proofs.lemmas.Bool.{true≢false}
use Rattle.dw_moves.proofs.GlanceRunLemmas.{men_take_is, kings_take_is, takes_by}
use Rattle.dw_moves.proofs.field.Field.takes.Goals as goal

pub returns-then-men_take : goal.returns-then-men_take
returns-then-men_take g c =
    let f = c.args.self.now in (
      (λ e. men_take_is g.B.Board.geometry f.men f.kings f.enemies f.occupied (c.men_take.ensures.0 e)),
      (λ h. c.if-men_take.true),
    )

pub returns-else-men_take : goal.returns-else-men_take
returns-else-men_take g c =
    let f = c.args.self.now in (
      (λ e. kings_take_is g.B.Board.geometry f.men f.kings f.enemies f.occupied (c.kings_take.ensures.0 e)),
      (λ h. elim (takes_by g.B.Board.geometry f.men f.kings f.enemies f.occupied h) [
        | inl m ↦ absurd (true≢false (sym (c.men_take.ensures.1 m) ∙ c.if-men_take.false))
        | inr k ↦ c.kings_take.ensures.1 k
      ]),
    )
