use Rattle.std.proofs.Common.{◌≡◌, take}
use Rattle.dw_notation.proofs.line_text.LineText.shared.Given as goal

abbrev pub invariant-moves : goal.invariant-moves
invariant-moves g l = take l.place l.line ≡ take l.place l.self.moves
