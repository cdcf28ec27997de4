use Rattle.std.proofs.Common.{sym, ◌∙◌}
use Rattle.dw_moves.specs.inner.MoveLemmas.{same_moves-is}
use Rattle.dw_moves.proofs.moves.same_move.Goals as goal

pub returns : goal.returns
returns g c = let h = same_moves-is c.args.a.now c.args.b.now in (
  λ e. h.0 (sym c.eq.ensures ∙ e),
  λ e. c.eq.ensures ∙ h.1 e,
)
