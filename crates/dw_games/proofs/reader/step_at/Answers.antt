use Rattle.std.proofs.Common.{refl, arith}
use Rattle.dw_games.specs.inner.Ahead.{token_value}
use Rattle.dw_games.proofs.TakenLemmas.{step_named, step_long, missed_step}
use Rattle.dw_games.proofs.reader.step_at.Goals as goal

pub returns-in-Ok : goal.returns-in-Ok
returns-in-Ok g c = λ p path at.
    step_named g.B.Board.geometry p path (token_value c.args.token) c.args.place.now at c.requires.written
    c.requires.no_result c.in-Ok.mv c.in-Ok.ensures c.if-place-lt-MAX_PATH.true

pub returns-in-Ok-2 : goal.returns-in-Ok-2
returns-in-Ok-2 g c = λ p path at.
    rw c.fault.ensures (
      step_long g.B.Board.geometry p path (token_value c.args.token) c.args.place.now at c.requires.written
          c.requires.no_result c.in-Ok-2.field-0 c.in-Ok-2.ensures c.requires.room
          (omega (arith, c.if-place-lt-MAX_PATH.false)),
      refl,
    )

pub returns-in-Err : goal.returns-in-Err
returns-in-Err g c = λ p path at.
    missed_step g.B.Board.geometry p path (token_value c.args.token) c.step_missed.result
    (c.step_missed.ensures p path at)
