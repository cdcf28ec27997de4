use Rattle.std.proofs.Common.{map, take}
use Rattle.std.specs.String.{string_bytes}
use Rattle.dw_first_moves.specs.LaterText.{AreLaterTexts}
use Rattle.dw_first_moves.proofs.later_text.later_texts.Given as goal

abbrev pub invariant-later : goal.invariant-later
invariant-later g l = AreLaterTexts g.B.Board.geometry l.position (take l.one-index l.later)
    (map (λ pair. (string_bytes pair.0, pair.1)) l.texts.items)
