use Rattle.std.proofs.Common.{◌-◌, ◌≤◌}
use Rattle.dw_memo.proofs.growing.first_size.Given as goal

abbrev pub invariant-halves : goal.invariant-halves
invariant-halves l = (1 ≤ l.size) × (l.size ≤ l.fn.most)

abbrev pub decreases-halves : goal.decreases-halves
decreases-halves l = l.size - 2048
