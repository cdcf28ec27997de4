-- Lines of play, and their order.
use Rattle.std.specs.Prelude.{◌≡◌, ℕ, ◌⊎◌, List, [], ◌∷◌}
use Rattle.std.proofs.Common.{zero, suc}
use Rattle.dw_board.specs.Geometry.{Geometry}
use Rattle.dw_board.specs.Placement.{Placement}
use Rattle.dw_moves.specs.Moves.{Move, Legal, play, NoMove}
use Rattle.dw_moves.specs.Order.{Precedes, IsListOf}
use Rattle.dw_solve.specs.Wins.{Lost}

-- A line: each move of the attacker keeps a win within n of his moves, the defender plays anything legal, and the line
-- ends if the defender has no move.
abbrev pub Line : Geometry → Placement → ℕ → List Move → Type 0
Line g p zero l = ⊥
Line g p (suc n) [] = ⊥
Line g p (suc n) (m ∷ []) = Legal g p m × Lost g (play g p m) n × NoMove g (play g p m)
Line g p (suc n) (m ∷ r ∷ l) =
    Legal g p m × Lost g (play g p m) n × Legal g (play g p m) r × Line g (play g (play g p m) r) n l

-- Lists of moves are in the order of their first differing moves; the beginning of a list comes before it.
abbrev pub Before : Geometry → Placement → List Move → List Move → Type 0
Before g p [] [] = ⊥
Before g p [] (n ∷ ns) = Unit {0}
Before g p (m ∷ ms) [] = ⊥
Before g p (m ∷ ms) (n ∷ ns) = Precedes g p m n ⊎ ((m ≡ n) × Before g (play g p m) ms ns)

-- all lines of a position in ascending order, each once
abbrev pub Lines : Geometry → Placement → ℕ → List (List Move) → Type 0
Lines g p n lines = IsListOf (Before g p) (Line g p n) lines
