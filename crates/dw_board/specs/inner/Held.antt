-- A piece more in the sets that a position keeps.
use Rattle.std.proofs.Common.{ℕ, Bool, cond, not, ◌&&◌, ◌||◌, Some}
use Rattle.std.specs.FinSet as set
use Rattle.dw_board.specs.declared.piece.Side.{Side}
use Rattle.dw_board.specs.declared.piece.Kind.{Kind}
use Rattle.dw_board.specs.declared.piece.Kind.TheVariants.{Man, King}
use Rattle.dw_board.specs.declared.piece.Piece.{Piece}
use Rattle.dw_board.specs.Geometry.{Geometry, Squares}
use Rattle.dw_board.specs.Placement.{on_last_row}
use Rattle.dw_board.specs.PieceSets.{is_that}

-- the set of a side and a kind, once a piece has come to a square
abbrev pub entered : Side → Kind → Squares → ℕ → Piece → Squares
entered side kind v s p = cond (is_that side kind (Some p)) (set.insert v s) v

-- whether a piece of this side and kind comes from one square to another: a man that comes to its last row is a king
abbrev pub arrives : Geometry → (Side → Kind → Squares) → (from to : ℕ) → Side → Kind → Bool
arrives g sets from to side Man = set.contains (sets side Man) from && not (on_last_row g side to)
arrives g sets from to side King =
    set.contains (sets side King) from || (set.contains (sets side Man) from && on_last_row g side to)
