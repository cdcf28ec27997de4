use Rattle.std.proofs.Common.{◌≡◌, ◌+◌, ◌++◌, length, map}
use Rattle.std.specs.List.{range_with_len}
use Rattle.dw_board.specs.Placement.{Placement}
use Rattle.dw_board.specs.Diagram.{sign_at}
use Rattle.dw_board.specs.inner.Drawing.{AreSigns}
use Rattle.dw_board.proofs.diagram.push_row.Given as goal

abbrev pub invariant-columns : goal.invariant-columns
invariant-columns g l = record {
  text : (p : Placement) → AreSigns g.B.Board.geometry p l.signs.occupied l.signs.white l.signs.kings
      → l.text.bytes ≡ l.initial.text.bytes ++ map (sign_at g.B.Board.geometry p l.row) (range_with_len 0 l.column);
  few : length l.text.bytes ≡ length l.initial.text.bytes + l.column;
}
