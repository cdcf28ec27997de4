-- The moves of a tree in their places.
use Rattle.std.specs.Prelude.{ℕ, ◌+◌, List, [], ◌∷◌, ◌++◌}
use Rattle.dw_board.specs.Geometry.{Geometry}
use Rattle.dw_board.specs.Placement.{Placement}
use Rattle.dw_moves.specs.Moves.{Move, play}
use Rattle.dw_solution.specs.Tree.{Tree, over, branch}

-- a move in its place: how many moves the way to it has, with itself, and the position before it
pub record Placed : Type 0 where
  pub depth : ℕ
  pub before : Placement
  pub move : Move

-- the moves of a tree from a position: each before all that go on after it, and these before the others in its place
abbrev pub placed_moves : Geometry → Placement → (depth : ℕ) → Tree → List Placed
placed_moves g p depth over = []
placed_moves g p depth (branch m behind others) = record { depth = depth; before = p; move = m }
    ∷ (placed_moves g (play g p m) (depth + 1) behind ++ placed_moves g p depth others)
