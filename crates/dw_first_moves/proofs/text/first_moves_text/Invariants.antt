use Rattle.std.proofs.Common.{map, take}
use Rattle.std.specs.String.{string_bytes}
use Rattle.dw_first_moves.specs.FirstMovesText.{AreEffectLines}
use Rattle.dw_first_moves.specs.Telling.{told_by}
use Rattle.dw_first_moves.proofs.text.first_moves_text.Given as goal

abbrev pub invariant-moves : goal.invariant-moves
invariant-moves g l = AreEffectLines g.B.Board.geometry l.position (map told_by (take l.one-index l.moves))
    (string_bytes l.text)
