-- The drawing of a position, as an SVG element: the board, and on it a mark for each piece.
use Rattle.std.specs.Prelude.{ℕ, ◌+◌, List, [], ◌++◌, Option, Some, None, Bool, true, false, codes, decimal}
use Rattle.std.specs.List.{range_with_len, flat_map}
use Rattle.dw_board.specs.Geometry.{Geometry, squares, row, column}
use Rattle.dw_board.specs.Placement.{Placement, at}
use Rattle.dw_board.specs.FenText.{written}
use Rattle.dw_board.specs.declared.piece.Piece.{Piece}
use Rattle.dw_board.specs.declared.piece.Side.{Side}
use Rattle.dw_board.specs.declared.piece.Side.TheVariants.{White, Black}
use Rattle.dw_board.specs.declared.piece.Kind.{Kind}
use Rattle.dw_board.specs.declared.piece.Kind.TheVariants.{Man, King}

-- the name of the picture of a piece: white man, white king, black man, black king
abbrev pub picture : Side → Kind → List ℕ
picture White Man = codes "wm"
picture White King = codes "wk"
picture Black Man = codes "bm"
picture Black King = codes "bk"

-- a piece in a column and a row, both counted from 0 at the top left
abbrev pub mark : Piece → ℕ → ℕ → List ℕ
mark piece c r = codes "<use href=\"#" ++ (picture piece.side piece.kind ++ (codes "\" x=\"" ++ (decimal c
    ++ (codes "\" y=\"" ++ (decimal r ++ codes "\"/>")))))

-- the drawing of a square in a column and a row: a piece, or nothing
abbrev pub drawn : Option Piece → ℕ → ℕ → List ℕ
drawn None c r = []
drawn (Some piece) c r = mark piece c r

-- the drawing of a square
abbrev pub square_mark : Geometry → Placement → ℕ → List ℕ
square_mark g p s = drawn (at p s) (column g s) (row g s)

-- the drawing of all squares, ascending
abbrev pub marks : Geometry → Placement → List ℕ
marks g p = flat_map (square_mark g p) (range_with_len 1 (squares g))

-- the numbers of the squares, if they are wanted
abbrev pub numbering : Bool → List ℕ
numbering false = []
numbering true = codes "<use href=\"#numbers\"/>"

-- the front of the empty board, in a square of as many units as there are rows, up to its alternative text
unfoldable pub board_front : (rows : ℕ) → List ℕ
board_front rows = codes "<svg viewBox=\"0 0 " ++ (decimal rows ++ (codes " " ++ (decimal rows
    ++ codes "\" role=\"img\" aria-label=\"")))

-- the empty board after its alternative text
unfoldable pub board_back : (numbers : Bool) → List ℕ
board_back numbers = codes "\"><use href=\"#board\"/>" ++ (numbering numbers ++ codes "<g>")

-- the drawing of a position, with its FEN text
unfoldable pub drawing : Geometry → Placement → (numbers : Bool) → List ℕ
drawing g p numbers = board_front g.rows ++ (written g p ++ (board_back numbers ++ (marks g p ++ codes "</g></svg>")))
