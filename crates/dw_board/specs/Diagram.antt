-- The diagram of a position: a line for each row, from Black's side down.
use Rattle.std.specs.Prelude.{ℕ, List, ◌++◌, ◌+◌, ◌*◌, ◌/◌, ◌%◌, ◌==◌, Option, Some, None, if◌then◌else◌, map, codes}
use Rattle.std.specs.List.{range_with_len, flat_map}
use Rattle.dw_board.specs.Geometry.{Geometry}
use Rattle.dw_board.specs.Placement.{Placement, at}
use Rattle.dw_board.specs.declared.piece.Piece.{Piece}
use Rattle.dw_board.specs.declared.piece.Side.{Side}
use Rattle.dw_board.specs.declared.piece.Side.TheVariants.{White, Black}
use Rattle.dw_board.specs.declared.piece.Kind.{Kind}
use Rattle.dw_board.specs.declared.piece.Kind.TheVariants.{Man, King}

-- w and b for men, W and B for kings
abbrev pub piece_sign : Side → Kind → ℕ
piece_sign White Man = 119
piece_sign White King = 87
piece_sign Black Man = 98
piece_sign Black King = 66

-- the sign of a square: that of its piece, or a point if it is empty
abbrev pub square_sign : Option Piece → ℕ
square_sign None = 46
square_sign (Some piece) = piece_sign piece.side piece.kind

-- the sign in a row and a column, both counted from 0: a light square, where their sum is even, is blank
abbrev pub sign_at : Geometry → Placement → ℕ → ℕ → ℕ
sign_at g p r c = if (r + c) % 2 == 0 then 32 else square_sign (at p (r * g.per_row + c / 2 + 1))

-- a row between two bars
abbrev pub row_text : Geometry → Placement → ℕ → List ℕ
row_text g p r = codes "|" ++ map (sign_at g p r) (range_with_len 0 g.rows) ++ codes "|\n"

-- all rows, from the top
unfoldable pub diagram_text : Geometry → Placement → List ℕ
diagram_text g p = flat_map (row_text g p) (range_with_len 0 g.rows)
