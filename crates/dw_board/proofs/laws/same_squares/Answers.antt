use Rattle.std.proofs.Common.{sym, ◌∙◌}
use Rattle.dw_board.specs.inner.SquareSetLemmas.{same_members-is}
use Rattle.dw_board.proofs.laws.same_squares.Goals as goal

pub returns : goal.returns
returns g c = let h = same_members-is c.args.one c.args.other in (
  λ e. h.0 (sym c.eq.ensures ∙ e),
  λ e. c.eq.ensures ∙ h.1 e,
)
