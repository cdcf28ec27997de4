use Rattle.std.specs.FinSet as fin
use Rattle.dw_moves.proofs.AddingLemmas.{Going}
use Rattle.dw_moves.proofs.quiet.push_kings.Given as goal

abbrev pub invariant-squares : goal.invariant-squares
invariant-squares g l = Going g.T.FromQuiet.made g.B.Board.geometry l.position l.left l.initial.moves.items
    l.moves.items

abbrev pub decreases-squares : goal.decreases-squares
decreases-squares g l = fin.len l.left
