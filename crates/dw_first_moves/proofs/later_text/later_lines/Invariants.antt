use Rattle.std.proofs.Common.{◌≡◌, map, take}
use Rattle.std.specs.String.{string_bytes}
use Rattle.dw_first_moves.specs.LaterText.{later_lines}
use Rattle.dw_first_moves.proofs.later_text.later_lines.Given as goal

abbrev pub invariant-texts : goal.invariant-texts
invariant-texts l = string_bytes l.lines
    ≡ later_lines (map (λ pair. (string_bytes pair.0, pair.1)) (take l.one-index l.texts))
