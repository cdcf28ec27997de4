use Rattle.std.proofs.Common.{refl}
use Rattle.dw_board.specs.declared.piece.Kind.TheVariants.{Man}
use Rattle.dw_moves.proofs.ManJumpLemmas.{man_starts}
use Rattle.dw_moves.proofs.mover.StepperMover.starts_towards.Goals as goal

pub returns : goal.returns
returns g c = λ p side s x t ground on free there jump.
    man_starts g.B.Board.geometry g.met.B.Board.numbers p (record { side = side; kind = Man }) s x t c.args.left.now
    c.args.field.now.occupied c.open_behind.result c.shifted.result c.args.direction c.opposite.result
    c.opposite.ensures refl on ground.of_all there c.open_behind.ensures c.shifted.ensures jump.0 jump.1
