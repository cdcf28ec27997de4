-- The pictures that drawings name: the empty board, the numbers of its squares, and the pieces.
use Rattle.std.specs.Prelude.{ℕ, List, ◌++◌, codes, decimal}
use Rattle.std.specs.List.{range_with_len, flat_map}
use Rattle.dw_board.specs.Geometry.{Geometry, squares, row, column}
use Rattle.dw_page.specs.declared.pictures.TheConstants.{PIECES}

-- the outline of a square, from its upper left corner on
abbrev pub outline : Geometry → ℕ → List ℕ
outline g s = codes "M" ++ (decimal (column g s) ++ (codes " " ++ (decimal (row g s) ++ codes "h1v1h-1z")))

-- the frame of a board, which is a square of as many units as there are rows
unfoldable pub frame : (rows : ℕ) → List ℕ
frame rows = codes "\"/><rect class=\"frame\" width=\"" ++ (decimal rows ++ (codes "\" height=\"" ++ (decimal rows
    ++ codes "\"/></g>\n")))

-- the empty board: all dark squares, and the frame
unfoldable pub board : Geometry → List ℕ
board g = codes "<g id=\"board\"><path class=\"dark\" d=\"" ++ (flat_map (outline g) (range_with_len 1 (squares g))
    ++ frame g.rows)

-- a number in the upper left corner of the square in a column and a row
abbrev pub label_at : (column row number : ℕ) → List ℕ
label_at c r number =
    codes "<text transform=\"translate(" ++ (decimal c ++ (codes " " ++ (decimal r
    ++ (codes ")\" x=\".03\" y=\".19\">" ++ (decimal number ++ codes "</text>\n")))))

-- the number of a square
abbrev pub label : Geometry → ℕ → List ℕ
label g s = label_at (column g s) (row g s) s

-- the numbers of all squares
unfoldable pub numbers : Geometry → List ℕ
numbers g = codes "<g id=\"numbers\" class=\"numbers\">\n" ++ (flat_map (label g) (range_with_len 1 (squares g))
    ++ codes "</g>\n")

-- the pictures of the pieces, a text that is always the same
unfoldable pub pieces : List ℕ
pieces = PIECES.now

-- all pictures, out of sight
unfoldable pub pictures : Geometry → List ℕ
pictures g = codes "<svg class=\"pictures\" aria-hidden=\"true\"><defs>\n" ++ (board g ++ (numbers g ++ (pieces
    ++ codes "</defs></svg>\n")))
