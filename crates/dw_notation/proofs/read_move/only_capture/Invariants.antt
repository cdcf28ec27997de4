use Rattle.std.proofs.Common.{take}
use Rattle.dw_notation.proofs.MoveAnswerLemmas.{FoundIn}
use Rattle.dw_notation.proofs.read_move.only_capture.Given as goal

abbrev pub invariant-moves : goal.invariant-moves
invariant-moves g l = FoundIn (take l.mv-index l.moves) l.from l.to l.found
