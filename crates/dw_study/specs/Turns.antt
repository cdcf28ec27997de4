-- The number of moves that the attacker makes in a tree.
use Rattle.std.specs.Prelude.{◌≡◌, ◌⊎◌, ℕ, ◌+◌, ◌/◌, ◌≤◌, List, length}
use Rattle.dw_board.specs.Lists.{Member}
use Rattle.dw_moves.specs.Moves.{Move}

-- the number of moves of the attacker among these
abbrev pub turns_in : List Move → ℕ
turns_in moves = (length moves + 1) / 2

-- the greatest number of moves that the attacker makes on a path: no path has more, and a path has as many, or the
-- number is 0
pub record HasTurns (tree : List (List Move)) (n : ℕ) : Type 0 where
  pub most : (path : List Move) → Member path tree → turns_in path ≤ n
  pub met : (n ≡ 0) ⊎ ((path : List Move) × Member path tree × (turns_in path ≡ n))
