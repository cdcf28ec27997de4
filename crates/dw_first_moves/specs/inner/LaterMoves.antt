-- What is found out about one first move.
use Rattle.std.specs.Prelude.{ℕ, Option, Some, None}
use Rattle.dw_board.specs.Geometry.{Geometry}
use Rattle.dw_board.specs.Placement.{Placement}
use Rattle.dw_moves.specs.Moves.{Move}
use Rattle.dw_first_moves.specs.Later.{WinsLater}

-- the least number of moves within which a first move wins later, or none if it does not
abbrev pub FindsLater : Geometry → Placement → (n most : ℕ) → Move → Option ℕ → Type 0
FindsLater g p n most m None = (k : ℕ) → WinsLater g p n most (m, k) → ⊥
FindsLater g p n most m (Some k) = WinsLater g p n most (m, k)
