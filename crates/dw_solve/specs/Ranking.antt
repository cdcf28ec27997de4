-- Moves in the order in which they are tried.
use Rattle.std.specs.Prelude.{ℕ, List, map}
use Rattle.dw_board.specs.Geometry.{Geometry}
use Rattle.dw_board.specs.Placement.{Placement}
use Rattle.dw_moves.specs.Moves.{Move, AreLegal}

-- the moves, without their ranks
abbrev pub moves_of : List (ℕ × Move) → List Move
moves_of ranked = map (λ r. r.1) ranked

-- these are the legal moves, each once and with some rank, in some order
abbrev pub AreRanked : Geometry → Placement → List (ℕ × Move) → Type 0
AreRanked g p ranked = AreLegal g p (moves_of ranked)
