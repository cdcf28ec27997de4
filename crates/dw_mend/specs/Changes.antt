-- Changes to one piece of a position, and the positions that they make.
use Rattle.std.specs.Prelude.{◌≡◌, ℕ, ◌⊎◌, Some, None, IsSome, List, [], ◌∷◌, ◌++◌, map}
use Rattle.std.specs.List.{range_with_len, flat_map}
use Rattle.dw_board.specs.Geometry.{Geometry, squares}
use Rattle.dw_board.specs.Placement.{Placement, at, placed, IsPosition}
use Rattle.dw_board.specs.declared.piece.Piece.{Piece}
use Rattle.dw_board.specs.declared.piece.Side.TheVariants.{White, Black}
use Rattle.dw_board.specs.declared.piece.Kind.{Kind}
use Rattle.dw_board.specs.declared.piece.Kind.TheVariants.{Man, King}

-- a piece is taken away, put on a square, set from a square on another, or made a king or a man
pub data Change : Type 0 where
  without : (s : ℕ) → Change
  with_piece : (s : ℕ) (piece : Piece) → Change
  set : (s t : ℕ) → Change
  made : (s : ℕ) (kind : Kind) → Change

-- a change makes q of p: pieces are put and set on empty squares, and a piece is made one of the other kind
abbrev pub Makes : Placement → Change → Placement → Type 0
Makes p (without s) q = IsSome (at p s) × (q ≡ placed p s None)
Makes p (with_piece s piece) q = (at p s ≡ None) × (q ≡ placed p s (Some piece))
Makes p (set s t) q = IsSome (at p s) × (at p t ≡ None) × (q ≡ placed (placed p s None) t (at p s))
Makes p (made s kind) q = (piece : Piece) × (at p s ≡ Some piece) × (piece.kind ≡ kind → ⊥)
    × (q ≡ placed p s (Some (record { side = piece.side; kind = kind })))

-- a neighbour of p: a position that a change makes of it
abbrev pub IsNeighbour : Geometry → Placement → Change → Placement → Type 0
IsNeighbour g p c q = Makes p c q × IsPosition g q.cells

-- the four pieces that can be put on a square
abbrev pub pieces : List Piece
pieces = record { side = White; kind = Man } ∷ record { side = White; kind = King }
    ∷ record { side = Black; kind = Man } ∷ record { side = Black; kind = King } ∷ []

-- the squares of a board, ascending
abbrev pub all_squares : Geometry → List ℕ
all_squares g = range_with_len 1 (squares g)

-- all changes in order: without, with, set, made; among each kind by squares, ascending
abbrev pub changes : Geometry → List Change
changes g = map without (all_squares g) ++ flat_map (λ s. map (with_piece s) pieces) (all_squares g)
    ++ flat_map (λ s. map (set s) (all_squares g)) (all_squares g)
    ++ flat_map (λ s. made s King ∷ made s Man ∷ []) (all_squares g)

-- these are the neighbours that the changes make, in their order; the other changes make none
abbrev pub AreMade : Geometry → Placement → List Change → List (Change × Placement) → Type 0
AreMade g p [] found = found ≡ []
AreMade g p (c ∷ cs) found =
    ((q : Placement) × (rest : List (Change × Placement)) × IsNeighbour g p c q × AreMade g p cs rest
    × (found ≡ (c, q) ∷ rest))
    ⊎ (((q : Placement) → IsNeighbour g p c q → ⊥) × AreMade g p cs found)

-- all neighbours of a position, in the order of the changes
abbrev pub AreNeighbours : Geometry → Placement → List (Change × Placement) → Type 0
AreNeighbours g p all = AreMade g p (changes g) all
