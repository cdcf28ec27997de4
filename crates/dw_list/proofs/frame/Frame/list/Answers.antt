use Rattle.std.proofs.Common.{◌≡◌, false, sym, subst, lit<}
use Rattle.dw_moves.specs.Moves.{NoMove}
use Rattle.dw_list.specs.LineStack.{Level}
use Rattle.dw_list.proofs.frame.Frame.list.Goals as goal

pub fill-requires : goal.fill-requires
fill-requires g c = (
  lit< tt,
  λ over.
      let is = c.is_over-is_over.ensures.0 over in
      subst (λ (z : Level). z.attacks ≡ false → z.left ≡ 0 → NoMove g.B.Board.geometry z.position) (sym c.self.view_is)
      c.requires is.0 is.1,
)
