-- A solver, as contracts see it.
use Rattle.std.specs.Prelude.{ℕ, ◌≤◌, ◌<◌, Option, Some, None}
use Rattle.dw_board.specs.Geometry.{Geometry}
use Rattle.dw_board.specs.Placement.{Placement}
use Rattle.dw_solve.specs.Wins.{Win}

-- a solver: its memo, the number of positions that it has expanded, and the number that it may expand
pub record Solving (M : Type 0) : Type 0 where
  pub memo : M
  pub expanded : ℕ
  pub limit : ℕ

-- the answer is the least number of moves from 1 to n within which there is a win, or `None` if there is none
abbrev pub IsLeast : Geometry → Placement → ℕ → Option ℕ → Type 0
IsLeast g p n None = Win g p n → ⊥
IsLeast g p n (Some k) = (1 ≤ k) × (k ≤ n) × Win g p k × ((j : ℕ) → j < k → Win g p j → ⊥)
