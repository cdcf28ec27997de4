use Rattle.dw_list.proofs.SeekLemmas.{Seeks, ahead_count}
use Rattle.dw_list.proofs.line_walk.seek.Given as goal

abbrev pub invariant-moves : goal.invariant-moves
invariant-moves g l = Seeks l.initial.stack l.stack l.mv

abbrev pub decreases-moves : goal.decreases-moves
decreases-moves g l = ahead_count l.stack.levels
