use Rattle.std.proofs.Common.{Err, subst}
use Rattle.std.proofs.lemmas.Result.{err_from_is_err_and}
use Rattle.dw_notation.specs.MoveReading.{IsRead}
use Rattle.dw_notation.specs.declared.read_move.MoveFault.TheVariants as reading
use Rattle.dw_games.specs.Play.{plain}
use Rattle.dw_games.specs.inner.Ahead.{token_value}
use Rattle.dw_games.proofs.TakenLemmas.{at_cursor, step_named, named_move, found_variation, found_reply, fault_reply}
use Rattle.dw_games.proofs.TakenLemmas.{fault_several, fault_formless}
use Rattle.dw_games.proofs.reader.first_step.Goals as goal

pub returns-in-Ok : goal.returns-in-Ok
returns-in-Ok g c = λ p tree front last before behind.
    found_variation g.row.B.Denot g.B.Board.geometry p tree (token_value c.args.token) c.args.before.now c.in-Ok.mv
    front last before
    (step_named g.B.Board.geometry p front (token_value c.args.token) c.args.before.now (at_cursor before)
    c.requires.written c.requires.no_result c.in-Ok.mv c.in-Ok.ensures c.requires.short)
    (named_move g.B.Board.geometry p front (token_value c.args.token) c.args.before.now (at_cursor before)
    c.requires.written c.requires.no_result c.in-Ok.mv c.in-Ok.ensures)

pub returns-in_err-step_at-in-Err-NoSuchMove : goal.returns-in_err-step_at-in-Err-NoSuchMove
returns-in_err-step_at-in-Err-NoSuchMove g c = λ p tree front last before behind.
    let e = err_from_is_err_and c.from_residual.result c.from_residual.ensures.1 in
    rw (e.1, e.2) (fault_reply g.row.B.Denot g.B.Board.geometry p tree (token_value c.args.token) front last _
    (subst (λ q. IsRead g.B.Board.geometry q (plain c.args.token.text.now) (Err reading.NoSuchMove)) before.position
    (rw c.in-Err-NoSuchMove.field-0-is at c.in-Err-NoSuchMove.ensures))
    (c.in_err-step_at-in-Err-NoSuchMove.ensures p _ (at_cursor behind)))

pub returns-in_ok-step_at-in-Err-NoSuchMove : goal.returns-in_ok-step_at-in-Err-NoSuchMove
returns-in_ok-step_at-in-Err-NoSuchMove g c = λ p tree front last before behind.
    found_reply g.row.B.Denot g.B.Board.geometry p tree (token_value c.args.token) c.args.behind.now
    c.in_ok-step_at-in-Err-NoSuchMove.field-0 front last behind
    (subst (λ q. IsRead g.B.Board.geometry q (plain c.args.token.text.now) (Err reading.NoSuchMove)) before.position
    (rw c.in-Err-NoSuchMove.field-0-is at c.in-Err-NoSuchMove.ensures))
    (c.in_ok-step_at-in-Err-NoSuchMove.ensures p _ (at_cursor behind))

pub returns-in-Err-Ambiguous : goal.returns-in-Err-Ambiguous
returns-in-Err-Ambiguous g c = λ p tree front last before behind.
    rw c.fault.ensures (fault_several g.row.B.Denot g.B.Board.geometry p tree (token_value c.args.token) front last
    c.requires.written c.requires.no_result
    (subst (λ q. IsRead g.B.Board.geometry q (plain c.args.token.text.now) (Err reading.Ambiguous)) before.position
    (rw c.in-Err-Ambiguous.field-0-is at c.in-Err-Ambiguous.ensures)))

pub returns-in-Err-Syntax : goal.returns-in-Err-Syntax
returns-in-Err-Syntax g c = λ p tree front last before behind.
    rw c.fault-in-Err-Syntax.ensures (fault_formless g.row.B.Denot g.B.Board.geometry p tree (token_value c.args.token)
    _ c.args.before.now.position c.requires.written c.requires.no_result
    (rw c.in-Err-Syntax.field-0-is at c.in-Err-Syntax.ensures))
