use Rattle.std.proofs.Common.{Ok, Err, subst}
use Rattle.dw_notation.specs.MoveReading.{IsRead}
use Rattle.dw_games.specs.Play.{plain}
use Rattle.dw_games.proofs.ForcedLemmas.{named_one, named_several}
use Rattle.dw_games.proofs.reader.names_after.Goals as goal

pub returns-in-Ok : goal.returns-in-Ok
returns-in-Ok g c =
    named_one g.B.Board.geometry c.args.position.now (plain c.args.text.now) c.args.reply.now c.in-Ok._mv
    (subst (λ q. IsRead g.B.Board.geometry q (plain c.args.text.now) (Ok c.in-Ok._mv)) c.play.ensures c.in-Ok.ensures)

pub returns-in-Err : goal.returns-in-Err
returns-in-Err g c =
    rw c.names_several.ensures (named_several g.B.Board.geometry c.args.position.now (plain c.args.text.now)
    c.args.reply.now c.in-Err.why c.requires.form
    (subst (λ q. IsRead g.B.Board.geometry q (plain c.args.text.now) (Err c.in-Err.why)) c.play.ensures
    c.in-Err.ensures))
