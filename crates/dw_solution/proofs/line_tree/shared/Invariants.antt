use Rattle.std.proofs.Common.{length, ◌-◌, ◌≡◌, ◌≤◌, take}
use Rattle.dw_solution.proofs.line_tree.shared.Given as goal

abbrev pub invariant-moves : goal.invariant-moves
invariant-moves g l = record {
  last : l.count ≤ length l.last;
  line : l.count ≤ length l.line;
  same : take l.count l.last ≡ take l.count l.line;
}

abbrev pub decreases-moves : goal.decreases-moves
decreases-moves g l = length l.last - l.count
