-- The texts of a move and of a reply to it.
use Rattle.std.specs.Prelude.{ℕ, List}
use Rattle.dw_board.specs.Geometry.{Geometry}
use Rattle.dw_board.specs.Placement.{Placement}
use Rattle.dw_moves.specs.Moves.{Move, play}
use Rattle.dw_notation.specs.Text.{IsMoveText}

abbrev pub IsTryWords : Geometry → Placement → Move × Move → (move reply : List ℕ) → Type 0
IsTryWords g p t move reply = IsMoveText g p t.0 move × IsMoveText g (play g p t.0) t.1 reply
