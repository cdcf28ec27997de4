use Rattle.std.proofs.Common.{length}
use Rattle.dw_moves.specs.Moves.{ray}
use Rattle.dw_moves.proofs.JumpStepLemmas.{Added}
use Rattle.dw_moves.proofs.quiet.push_run.Given as goal

abbrev pub invariant-run : goal.invariant-run
invariant-run g l = Added (g.T.FromQuiet.made l.from) g.B.Board.geometry l.position l.kind l.direction l.from l.at
    l.initial.moves.items l.moves.items

abbrev pub decreases-run : goal.decreases-run
decreases-run g l = length (ray g.B.Board.geometry l.at l.direction)
