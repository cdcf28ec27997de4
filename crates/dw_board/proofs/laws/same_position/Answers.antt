use Rattle.std.proofs.Common.{sym, ◌∙◌}
use Rattle.dw_board.specs.inner.PlacementLemmas.{same-is}
use Rattle.dw_board.proofs.laws.same_position.Goals as goal

pub returns : goal.returns
returns g c = let h = same-is c.args.a.now c.args.b.now in (λ e. h.0 (sym c.eq.ensures ∙ e), λ e. c.eq.ensures ∙ h.1 e)
