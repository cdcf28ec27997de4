use Rattle.std.proofs.Common.{◌≡◌, ◌++◌, take}
use Rattle.dw_notation.proofs.streams.history.History.with.Given as goal

abbrev pub invariant-loop-byte : goal.invariant-loop-byte
invariant-loop-byte l = l.history ≡ l.initial.history ++ take l.byte-index l.piece
