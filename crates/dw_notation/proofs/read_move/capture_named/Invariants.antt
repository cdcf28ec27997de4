use Rattle.std.proofs.Common.{length}
use Rattle.dw_notation.proofs.MoveNameLemmas.{Reading}
use Rattle.dw_notation.proofs.read_move.capture_named.Given as goal

abbrev pub invariant-numbers : goal.invariant-numbers
invariant-numbers g l = Reading g.B.Board.geometry l.text l.squares.items l.rest

abbrev pub decreases-numbers : goal.decreases-numbers
decreases-numbers g l = length l.rest
