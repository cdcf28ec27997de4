use Rattle.std.proofs.Common.{Err, take}
use Rattle.dw_board.specs.Lists.{Member}
use Rattle.dw_moves.specs.Moves.{Move, play}
use Rattle.dw_notation.specs.MoveReading.{IsRead}
use Rattle.dw_notation.specs.declared.read_move.MoveFault.TheVariants as reading
use Rattle.dw_games.specs.Play.{plain}
use Rattle.dw_games.proofs.reader.names_behind.Given as goal

abbrev pub invariant-replies : goal.invariant-replies
invariant-replies g l = (m : Move) → Member m (take l.reply-index l.replies)
    → IsRead g.B.Board.geometry (play g.B.Board.geometry l.position m) (plain l.text) (Err reading.NoSuchMove)
