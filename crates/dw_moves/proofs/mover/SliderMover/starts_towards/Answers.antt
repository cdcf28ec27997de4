use Rattle.dw_board.specs.declared.piece.Kind.TheVariants.{King}
use Rattle.dw_moves.proofs.KingStartLemmas.{king_starts}
use Rattle.dw_moves.proofs.mover.SliderMover.starts_towards.Goals as goal

pub returns : goal.returns
returns g c = λ p side s x t ground on free there jump.
    king_starts g.B.Board.geometry g.met.B.Board.numbers p (record { side = side; kind = King }) s x t c.args.left.now
    c.args.field.now.occupied c.open_behind.result c.shifted-next.result c.minus.result c.slid.result
    c.args.direction c.opposite-back.result c.opposite-back.ensures on free ground.of_all there
    c.open_behind.ensures c.shifted-next.ensures c.minus.ensures c.slid.ensures jump.0 jump.1
