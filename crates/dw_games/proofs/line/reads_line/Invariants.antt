use Rattle.std.proofs.Common.{[], length}
use Rattle.dw_board.specs.Placement.{Placement}
use Rattle.dw_games.specs.inner.Ahead.{bytes_ahead}
use Rattle.dw_games.specs.inner.Reading.{IsReading, HasRead}
use Rattle.dw_games.specs.inner.LineReading.{LineHasGoneOn}
use Rattle.dw_games.proofs.line.reads_line.Given as goal

abbrev pub invariant-tokens : goal.invariant-tokens
invariant-tokens g l = record {
  reading : IsReading g.B.Board.geometry l.reader;
  gone_on : (p : Placement) → HasRead g.B.Board.geometry p [] l.initial.reader
      → LineHasGoneOn g.B.Board.geometry p l.initial.tokens l.tokens l.reader;
}

abbrev pub decreases-tokens : goal.decreases-tokens
decreases-tokens g l = length (bytes_ahead l.tokens)
