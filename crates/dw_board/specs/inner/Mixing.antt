-- The number of a position for hashes and tables.
use Rattle.std.specs.Prelude.{ℕ, ◌+◌, ◌*◌, ◌%◌, ◌^◌}
use Rattle.dw_board.specs.declared.piece.Side.{Side}
use Rattle.dw_board.specs.declared.piece.Side.TheVariants.{White, Black}
use Rattle.dw_board.specs.declared.piece.Kind.{Kind}
use Rattle.dw_board.specs.declared.piece.Kind.TheVariants.{Man, King}
use Rattle.dw_board.specs.declared.position.TheConstants.{TURN_FACTOR, WHITE_MEN_FACTOR, WHITE_KINGS_FACTOR}
use Rattle.dw_board.specs.declared.position.TheConstants.{BLACK_MEN_FACTOR, BLACK_KINGS_FACTOR}
use Rattle.dw_board.specs.Geometry.{Geometry}
use Rattle.dw_board.specs.SquareSet.{word_of}
use Rattle.dw_board.specs.Placement.{Placement, side_code}
use Rattle.dw_board.specs.PieceSets.{standing}

-- the word of the squares on which a piece of this side and kind stands
abbrev pub standing_word : Geometry → Placement → Side → Kind → ℕ
standing_word g p side kind = word_of g (standing p.cells side kind)

-- Sealed: a number mixed from the side to move and the pieces on the board; proofs use nothing more of it. It is the
-- sum of the side to move and the four words, each times its own factor, modulo 2^64.
unfoldable pub mixed_word : Geometry → Placement → ℕ
mixed_word g p =
    (side_code p.turn * TURN_FACTOR + standing_word g p White Man * WHITE_MEN_FACTOR
    + standing_word g p White King * WHITE_KINGS_FACTOR + standing_word g p Black Man * BLACK_MEN_FACTOR
    + standing_word g p Black King * BLACK_KINGS_FACTOR) % 2 ^ 64
