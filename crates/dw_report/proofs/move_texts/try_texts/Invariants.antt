use Rattle.std.proofs.Common.{map, take}
use Rattle.std.specs.String.{string_bytes}
use Rattle.dw_report.specs.MoveTexts.{AreTryTexts}
use Rattle.dw_report.proofs.move_texts.try_texts.Given as goal

abbrev pub invariant-tries : goal.invariant-tries
invariant-tries g l = AreTryTexts g.B.Board.geometry l.position (take l.tried-index l.tries)
    (map (λ t. (string_bytes t.0, string_bytes t.1)) l.texts.items)
