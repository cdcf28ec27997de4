use Rattle.std.proofs.Common.{◌≡◌, Some, sym, subst}
use Rattle.dw_board.specs.Geometry.{step}
use Rattle.dw_moves.proofs.StepBackLemmas.{step_back}
use Rattle.dw_moves.proofs.SquareSetLemmas.{in_minus}
use Rattle.dw_moves.proofs.field.Field.open_behind.Goals as goal

pub returns : goal.returns
returns g c = λ x t there leads on out.
    let geo = g.B.Board.geometry in
    let behind = (in_minus c.shifted.result c.args.self.now.occupied c.minus-behind.result t c.minus-behind.ensures).1 (
      (c.shifted.ensures t).1 (x, (there, leads)),
      out,
    ) in
    (c.shifted-2.ensures x).1 (
      t,
      (
        behind,
        subst (λ z. step geo t z ≡ Some x) (sym c.opposite.ensures)
            (step_back geo g.met.B.Board.numbers x t c.args.direction on leads),
      ),
    )
