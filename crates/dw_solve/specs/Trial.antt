-- How free a side is in its choice of a move.
use Rattle.std.specs.Prelude.{◌≡◌, ℕ, ◌+◌, ◌*◌, ◌-◌, ◌<◌}
use Rattle.std.specs.FinSet as set
use Rattle.dw_board.specs.Geometry.{Geometry, Squares}
use Rattle.dw_board.specs.Placement.{Placement}
use Rattle.dw_moves.specs.Moves.{AreEnds, IsBest, IsQuietCount, CanCapture}

-- n is 0 if the side to move must capture, else the number of its quiet moves
pub record IsTrial (g : Geometry) (p : Placement) (n : ℕ) : Type 0 where
  pub forced : CanCapture g p → n ≡ 0
  pub free : (CanCapture g p → ⊥) → IsQuietCount g p n

-- the rank by captures: two for each square on which one ends, and three for each piece that each takes, but the first
pub record IsCaptureRank (g : Geometry) (p : Placement) (n : ℕ) : Type 0 where
  pub pieces : ℕ
  pub ends : Squares
  pub best : IsBest g p pieces
  pub are : AreEnds g p ends
  pub sum : n ≡ 2 * set.len ends + 3 * (pieces - 1)

-- the rank of a move after which the position is p: two for each move that its trial counts; if it is 0, by captures
pub record IsRankByTrial (g : Geometry) (p : Placement) (n : ℕ) : Type 0 where
  pub counted : ℕ
  pub trial : IsTrial g p counted
  pub none : counted ≡ 0 → IsCaptureRank g p n
  pub some : 0 < counted → n ≡ 2 * counted
