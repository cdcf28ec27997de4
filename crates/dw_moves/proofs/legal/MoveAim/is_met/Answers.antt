use Rattle.std.proofs.Common.{sym, ◌∙◌}
use Rattle.dw_moves.specs.inner.MoveLemmas.{same_moves-is}
use Rattle.dw_moves.proofs.legal.MoveAim.is_met.Goals as goal

pub returns : goal.returns
returns g c = let h = same_moves-is c.args.mv.now c.args.self.now in (
  λ e. h.0 (sym c.eq.ensures ∙ e),
  λ e. c.eq.ensures ∙ h.1 e,
)
