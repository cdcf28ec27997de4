-- Forced wins.
use Rattle.std.specs.Prelude.{ℕ}
use Rattle.std.proofs.Common.{zero, suc}
use Rattle.dw_board.specs.Geometry.{Geometry}
use Rattle.dw_board.specs.Placement.{Placement}
use Rattle.dw_moves.specs.Moves.{Move, Legal, play}

-- The side to move wins within n of its moves: it has a move after which the other side, whatever it replies, loses
-- within n - 1. A side that has no move has lost.
abbrev pub Win : Geometry → Placement → ℕ → Type 0
Win g p zero = ⊥
Win g p (suc n) = (m : Move) × Legal g p m × ((r : Move) → Legal g (play g p m) r → Win g (play g (play g p m) r) n)

-- The side to move has lost: whatever it plays, the other side wins within n of its moves.
abbrev pub Lost : Geometry → Placement → ℕ → Type 0
Lost g q n = (r : Move) → Legal g q r → Win g (play g q r) n
