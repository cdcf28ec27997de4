use Rattle.std.proofs.Common.{arith, ap, length, subst}
use Rattle.dw_solution.specs.Movetext.{IsTextOfFirst}
use Rattle.dw_solution.proofs.movetext.movetext.Goals as goal

pub cut_text-requires : goal.cut_text-requires
cut_text-requires g c = (
  c.in_ok-text.text.items,
  subst (λ z. IsTextOfFirst g.B.Board.geometry c.args.heading c.args.first.now z c.in_ok-text.text.items)
      c.len-lines.ensures c.in_ok-text.ensures,
  omega (arith, c.if-as_slice-le-MAX_WRITTEN.false, ap length c.as_slice.ensures.value),
)
