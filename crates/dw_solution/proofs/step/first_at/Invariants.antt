use Rattle.std.proofs.Common.{length, ◌-◌, ◌≡◌, ◌≤◌, drop}
use Rattle.dw_solution.specs.inner.Steps.{tree_at}
use Rattle.dw_solution.proofs.step.first_at.Given as goal

abbrev pub invariant-steps : goal.invariant-steps
invariant-steps g l = record {
  within : l.place ≤ length l.steps;
  same : tree_at (drop l.place l.steps) l.depth ≡ tree_at l.steps l.depth;
}

abbrev pub decreases-steps : goal.decreases-steps
decreases-steps g l = length l.steps - l.place
