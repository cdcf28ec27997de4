-- The first moves that win later than the keys.
use Rattle.std.specs.Prelude.{ℕ, ◌<◌, List}
use Rattle.dw_board.specs.Geometry.{Geometry}
use Rattle.dw_board.specs.Placement.{Placement}
use Rattle.dw_moves.specs.Moves.{Move}
use Rattle.dw_moves.specs.Order.{Precedes, IsListOf}
use Rattle.dw_first_moves.specs.FirstMoves.{WinsFirstIn}

-- a first move wins within k moves and not within fewer; k is more than n, and at most `most`
abbrev pub WinsLater : Geometry → Placement → (n most : ℕ) → Move × ℕ → Type 0
WinsLater g p n most (m, k) = WinsFirstIn g p most m k × (n < k)

-- all first moves that win within `most` moves and not within n, each with its least number, in the order of moves
abbrev pub AreLater : Geometry → Placement → (n most : ℕ) → List (Move × ℕ) → Type 0
AreLater g p n most later = IsListOf (λ a b. Precedes g p a.0 b.0) (WinsLater g p n most) later
