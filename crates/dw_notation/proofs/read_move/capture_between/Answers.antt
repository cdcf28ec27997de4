use Rattle.std.proofs.Common.{subst}
use Rattle.dw_notation.specs.inner.MoveReader.{IsOnly}
use Rattle.dw_notation.proofs.MoveAnswerLemmas.{only_answers}
use Rattle.dw_notation.proofs.read_move.capture_between.Goals as goal

pub returns : goal.returns
returns g c =
    only_answers g.B.Board.geometry c.args.position.now c.in_ok-moves.moves.items c.args.from c.args.to
    c.only_capture.result c.in_ok-moves.ensures
    (subst (λ moves. IsOnly moves c.args.from c.args.to c.only_capture.result) c.as_slice.ensures.value
    c.only_capture.ensures)
