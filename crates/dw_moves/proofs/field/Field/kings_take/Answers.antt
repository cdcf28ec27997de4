use Rattle.std.proofs.Common.{sym, ◌∙◌}
use Rattle.std.proofs.lemmas.Bool.{true≢false}
use Rattle.dw_moves.proofs.GlanceRunLemmas.{no_kings_take}
use Rattle.dw_moves.proofs.field.Field.kings_take.Goals as goal

pub returns-else-any : goal.returns-else-any
returns-else-any g c = (
  (λ e. absurd (true≢false (sym e ∙ c.if-any.false))),
  (λ h. absurd (no_kings_take g.B.Board.geometry c.args.self.now.kings c.args.self.now.enemies c.args.self.now.occupied
      (λ s i. true≢false (sym (c.any.ensures.1 (s, i)) ∙ c.if-any.false)) h)),
)
