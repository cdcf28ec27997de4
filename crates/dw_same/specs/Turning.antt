-- The rules' only symmetry: the board turned by half a turn, with the colours and the side to move exchanged.
use Rattle.std.specs.Prelude.{◌≡◌, ◌⊎◌, ◌+◌, ◌-◌, ℕ, cond, map, nat_le, Option, None, Some}
use Rattle.std.specs.List.{range_with_len}
use Rattle.dw_board.specs.Geometry.{Geometry, squares}
use Rattle.dw_board.specs.Placement.{Placement, at, other}
use Rattle.dw_board.specs.declared.piece.Piece.{Piece}

-- the piece of the other colour
abbrev pub recoloured : Option Piece → Option Piece
recoloured None = None
recoloured (Some piece) = Some (record { side = other piece.side; kind = piece.kind })

-- the square where a square comes to lie: the last one for the first, and so on
abbrev pub opposite : Geometry → ℕ → ℕ
opposite g s = squares g + 1 - s

-- the content of a square after the turn
abbrev pub turned_at : Geometry → Placement → ℕ → Option Piece
turned_at g p s = cond (nat_le s (squares g)) (recoloured (at p (opposite g s))) None

-- the position turned by 180 degrees, with the colours and the side to move exchanged
abbrev pub turned : Geometry → Placement → Placement
turned g p = record { cells = map (turned_at g p) (range_with_len 1 50); turn = other p.turn }

-- a position is another one, or that one turned
abbrev pub AreSame : Geometry → Placement → Placement → Type 0
AreSame g p q = (p ≡ q) ⊎ (p ≡ turned g q)
