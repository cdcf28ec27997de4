-- A law of first moves, for every board.
use Rattle.std.specs.Prelude.{◌≡◌, ℕ, ◌≤◌}
use Rattle.dw_board.specs.Geometry.{Geometry, IsBoard}
use Rattle.dw_board.specs.Placement.{Placement}
use Rattle.dw_moves.specs.Moves.{Move, Legal}
use Rattle.dw_first_moves.specs.FirstMoves.{Effect, HasEffect}

-- a legal move has an effect within n moves, and only one
pub record OneEffect : Type 0 where
  pub some : (g : Geometry) → IsBoard g → (p : Placement) (n : ℕ) (m : Move) → 1 ≤ n → Legal g p m
      → (effect : Effect) × HasEffect g p n m effect
  pub only : (g : Geometry) → IsBoard g → (p : Placement) (n : ℕ) (m : Move) (effect other : Effect)
      → HasEffect g p n m effect → HasEffect g p n m other → effect ≡ other
