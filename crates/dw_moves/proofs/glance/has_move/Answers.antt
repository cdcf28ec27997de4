use Rattle.dw_moves.proofs.HasMoveLemmas.{move_by_step, move_by_capture}
use Rattle.dw_moves.proofs.glance.has_move.Goals as goal

pub returns-then-can_step : goal.returns-then-can_step
returns-then-can_step g c = move_by_step g.B.Board.geometry c.args.position.now c.can_step.result c.can_step.ensures
    c.if-can_step.true

pub returns-else-can_step : goal.returns-else-can_step
returns-else-can_step g c =
    move_by_capture g.B.Board.geometry c.args.position.now c.can_step.result c.can_capture.result c.can_step.ensures
    c.if-can_step.false c.can_capture.ensures
