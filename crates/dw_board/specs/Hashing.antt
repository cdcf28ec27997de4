-- The bytes that a position feeds into a hash.
use Rattle.std.specs.Prelude.{ℕ, List}
use Rattle.std.specs.Hash as fed
use Rattle.dw_board.specs.Geometry.{Geometry}
use Rattle.dw_board.specs.Placement.{Placement}
use Rattle.dw_board.specs.inner.Mixing.{mixed_word}

-- one word, mixed from the side to move and the pieces on the board
abbrev pub position_bytes : Geometry → Placement → List (List ℕ)
position_bytes g p = fed.u64 (mixed_word g p)
