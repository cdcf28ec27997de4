use Rattle.std.proofs.Common.{◌≡◌, ◌+◌, ◌-◌, ◌≤◌, ◌++◌, length, take, vec_len, vec_capacity}
use Rattle.dw_solution.specs.inner.Steps.{chain}
use Rattle.dw_solution.proofs.step.add_steps.Given as goal

abbrev pub invariant-moves : goal.invariant-moves
invariant-moves g l = record {
  items : l.steps.items ≡ l.initial.steps.items ++ chain l.depth (take l.place l.moves);
  room : vec_len l.steps + (length l.moves - l.place) ≤ vec_capacity l.steps;
}
