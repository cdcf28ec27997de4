use Rattle.std.proofs.Common.{map, take}
use Rattle.std.specs.String.{string_bytes}
use Rattle.dw_notation.specs.Text.{AreMoveTexts}
use Rattle.dw_report.proofs.move_texts.each_move_text.Given as goal

abbrev pub invariant-moves : goal.invariant-moves
invariant-moves g l = AreMoveTexts g.B.Board.geometry l.position (take l.mv-index l.moves)
    (map string_bytes l.texts.items)
