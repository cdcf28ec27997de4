use Rattle.std.proofs.Common.{◌≡◌, ◌+◌, ◌-◌, ◌≤◌}
use Rattle.dw_board.specs.Fen.{set_squares}
use Rattle.dw_board.proofs.fen.read.set_squares.Given as goal

abbrev pub invariant-squares : goal.invariant-squares
invariant-squares g l = record {
  low : l.fn.from ≤ l.number;
  same : set_squares g.B.Board.geometry l.piece l.place l.fn.from (l.fn.to + 1 - l.fn.from) l.initial.position
      ≡ set_squares g.B.Board.geometry l.piece l.place l.number (l.fn.to + 1 - l.number) l.position;
}
