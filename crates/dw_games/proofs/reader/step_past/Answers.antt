use Rattle.std.proofs.Common.{Err, subst}
use Rattle.dw_notation.specs.MoveReading.{IsRead}
use Rattle.dw_games.specs.Play.{plain}
use Rattle.dw_games.specs.inner.Ahead.{token_value}
use Rattle.dw_games.proofs.TakenLemmas.{at_cursor, found_after, found_again, fault_behind}
use Rattle.dw_games.proofs.reader.step_past.Goals as goal

pub returns-in-Ok : goal.returns-in-Ok
returns-in-Ok g c = λ p tree kind before moves answers now answer told.
    found_after g.row.B.Denot g.B.Board.geometry p tree (token_value c.args.token) kind before moves answers
    c.args.answer.now c.in-Ok.step c.args.line.now.is_reply c.args.why answer told
    (subst (λ q. IsRead g.B.Board.geometry q (plain c.args.token.text.now) (Err c.args.why)) now.position
    c.requires.none) c.requires.kept (c.in-Ok.ensures p _ (at_cursor answer))

pub returns-in-Ok-step_missed : goal.returns-in-Ok-step_missed
returns-in-Ok-step_missed g c = λ p tree kind before moves answers now answer told.
    let behind = rw c.in-Err-Refused.field-0-is at (c.in-Err-Refused.ensures p _ (at_cursor answer)) in
    found_again g.row.B.Denot g.B.Board.geometry p tree (token_value c.args.token) kind before moves answers
    c.args.line.now.now c.in-Ok-step_missed.step c.args.line.now.is_reply c.in-Err-Refused.what c.in-Err-Refused.place
    now told behind (c.in-Ok-step_missed.ensures p _ (at_cursor now))

pub returns-in-Err-Refused-step_missed : goal.returns-in-Err-Refused-step_missed
returns-in-Err-Refused-step_missed g c = λ p tree kind before moves answers now answer told.
    let behind = rw c.in-Err-Refused.field-0-is at (c.in-Err-Refused.ensures p _ (at_cursor answer)) in
    let here = rw c.in-Err-Refused-step_missed.field-0-is at (c.in-Err-Refused-step_missed.ensures p _ (at_cursor now))
    in fault_behind g.row.B.Denot g.B.Board.geometry p tree (token_value c.args.token) kind before moves answers
    c.in-Err-Refused.what c.in-Err-Refused-step_missed.field-0-0 c.in-Err-Refused.place
    c.in-Err-Refused-step_missed.field-0-1 behind here
