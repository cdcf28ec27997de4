use Rattle.std.proofs.Common.{◌≡◌, ◌≤◌, ◌*◌, length, flat_map}
use Rattle.std.specs.List.{range_with_len}
use Rattle.dw_board.specs.Diagram.{row_text}
use Rattle.dw_board.proofs.diagram.diagram.Given as goal

abbrev pub invariant-rows : goal.invariant-rows
invariant-rows g l = record {
  text : l.text.bytes ≡ flat_map (row_text g.B.Board.geometry l.position) (range_with_len 0 l.row);
  few : length l.text.bytes ≤ 13 * l.row;
}
