use Rattle.std.proofs.Common.{◌≡◌, ◌≤◌, ◌+◌, ◌++◌, length, map}
use Rattle.dw_solution.specs.Placed.{placed_moves}
use Rattle.dw_solution.specs.Telling.{placed_by}
use Rattle.dw_solution.specs.inner.Steps.{tree_at, IsPlayable}
use Rattle.dw_solution.proofs.placed.+placing.Given as goal

abbrev pub decreases-push_moves : goal.decreases-push_moves
decreases-push_moves g l = length l.steps.now

abbrev pub invariant-moves : goal.invariant-moves
invariant-moves g l = record {
  placed : map placed_by l.all.items ++ placed_moves g.B.Board.geometry l.position (l.depth + 1)
      (tree_at l.left l.depth)
      ≡ map placed_by l.initial.all.items
      ++ placed_moves g.B.Board.geometry l.position (l.depth + 1) (tree_at l.steps l.depth);
  playable : IsPlayable g.B.Board.geometry l.position (tree_at l.left l.depth);
  shorter : length l.left ≤ length l.steps;
}

abbrev pub decreases-moves : goal.decreases-moves
decreases-moves g l = length l.left
