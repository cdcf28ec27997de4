use Rattle.std.proofs.Common.{ℕ, ◌<◌, ◌≤◌}
use Rattle.dw_solve.specs.Wins.{Win}
use Rattle.dw_desk_commands.proofs.solution.least_number.Given as goal

abbrev pub invariant-moves : goal.invariant-moves
invariant-moves g l = record {
  none : (j : ℕ) → j < l.value → Win g.B.Board.geometry l.position j → ⊥;
  rises : l.initial.desk.solver.expanded ≤ l.desk.solver.expanded;
}
