-- The one FEN text that is written for a position.
use Rattle.std.specs.Prelude.{ℕ, List, [], ◌++◌, Option, Some, None, if◌then◌else◌, filter, map, codes, decimal}
use Rattle.std.specs.List.{join_with_byte, range_with_len}
use Rattle.dw_board.specs.Geometry.{Geometry, squares}
use Rattle.dw_board.specs.Placement.{Placement, at, is_of, is_man}
use Rattle.dw_board.specs.FenTokens.{comma}
use Rattle.dw_board.specs.declared.piece.Piece.{Piece}
use Rattle.dw_board.specs.declared.piece.Side.{Side}
use Rattle.dw_board.specs.declared.piece.Side.TheVariants.{White, Black}

-- the squares on which a side stands, ascending
abbrev pub squares_held : Geometry → Placement → Side → List ℕ
squares_held g p side = filter (λ s. is_of side (at p s)) (range_with_len 1 (squares g))

-- a king has a K before it
abbrev pub king_mark : Option Piece → List ℕ
king_mark None = []
king_mark (Some piece) = if is_man piece.kind then [] else codes "K"

-- a piece is written as its square's number, a king with K before it
abbrev pub item_text : Placement → ℕ → List ℕ
item_text p s = king_mark (at p s) ++ decimal s

-- a side's pieces, with commas between them
abbrev pub items_text : Geometry → Placement → Side → List ℕ
items_text g p side = join_with_byte comma (map (item_text p) (squares_held g p side))

-- a side's letter
abbrev pub side_text : Side → List ℕ
side_text White = codes "W"
side_text Black = codes "B"

-- the turn, then White's pieces, then Black's, as in W:WK7,31:B
unfoldable pub written : Geometry → Placement → List ℕ
written g p = side_text p.turn ++ codes ":W" ++ items_text g p White ++ codes ":B" ++ items_text g p Black
