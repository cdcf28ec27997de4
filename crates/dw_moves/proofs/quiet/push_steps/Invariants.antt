use Rattle.std.specs.FinSet as fin
use Rattle.dw_moves.proofs.AddingLemmas.{Stepping}
use Rattle.dw_moves.proofs.quiet.push_steps.Given as goal

abbrev pub invariant-squares : goal.invariant-squares
invariant-squares g l = Stepping g.T.FromQuiet.made g.B.Board.geometry l.position l.direction l.left
    l.initial.moves.items l.moves.items

abbrev pub decreases-squares : goal.decreases-squares
decreases-squares g l = fin.len l.left
