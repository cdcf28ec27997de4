use Rattle.std.proofs.Common.{Err, subst}
use Rattle.dw_notation.specs.MoveReading.{IsRead}
use Rattle.dw_games.specs.Play.{plain}
use Rattle.dw_games.specs.inner.Ahead.{token_value}
use Rattle.dw_games.proofs.ForcedLemmas.{step_fault}
use Rattle.dw_games.proofs.reader.step_after.Goals as goal

pub returns-in-Err : goal.returns-in-Err
returns-in-Err g c =
    rw c.refusal.ensures (step_fault g.B.Board.geometry c.args.position.now g.row.B.Denot (token_value c.args.token)
    c.args.reply.now c.in-Err.why c.requires.form c.requires.only
    (subst (λ q. IsRead g.B.Board.geometry q (plain c.args.token.text.now) (Err c.in-Err.why)) c.play.ensures
    c.in-Err.ensures))
