use Rattle.std.proofs.Common.{length}
use Rattle.dw_moves.specs.Moves.{ray}
use Rattle.dw_moves.proofs.QuietLemmas.{Passed}
use Rattle.dw_moves.proofs.quiet.runs_to.Given as goal

abbrev pub invariant-run : goal.invariant-run
invariant-run g l = Passed g.B.Board.geometry l.position l.kind l.direction l.fn.from l.to l.at

abbrev pub decreases-run : goal.decreases-run
decreases-run g l = length (ray g.B.Board.geometry l.at l.direction)
