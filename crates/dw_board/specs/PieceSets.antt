-- The squares of each side's men and kings, as four sets.
use Rattle.std.proofs.Common.{◌≡◌, ℕ, suc, zero, Bool, true, false, cond, ◌&&◌, List, Option, Some, None, get_or, map}
use Rattle.std.specs.FinSet as set
use Rattle.std.specs.List.{range_with_len}
use Rattle.dw_board.specs.declared.piece.Side.{Side}
use Rattle.dw_board.specs.declared.piece.Side.TheVariants.{White, Black}
use Rattle.dw_board.specs.declared.piece.Kind.{Kind}
use Rattle.dw_board.specs.declared.piece.Kind.TheVariants.{Man, King}
use Rattle.dw_board.specs.declared.piece.Piece.{Piece}
use Rattle.dw_board.specs.declared.held.Held.{Held}
use Rattle.dw_board.specs.Geometry.{Geometry, Squares}
use Rattle.dw_board.specs.Placement.{IsPosition, same_side}

-- whether two kinds are the same
abbrev pub same_kind : Kind → Kind → Bool
same_kind Man Man = true
same_kind Man King = false
same_kind King Man = false
same_kind King King = true

-- whether a piece of this side and kind stands there
abbrev pub is_that : Side → Kind → Option Piece → Bool
is_that side k None = false
is_that side k (Some p) = same_side p.side side && same_kind p.kind k

-- the squares up to n on which a piece of this side and kind stands
unfoldable pub standing_below : List (Option Piece) → Side → Kind → ℕ → Squares
standing_below cells side k zero = set.empty
standing_below cells side k (suc n) =
    cond (is_that side k (get_or cells n None)) (set.insert (standing_below cells side k n) (suc n))
    (standing_below cells side k n)

-- the squares on which a piece of this side and kind stands
unfoldable pub standing : List (Option Piece) → Side → Kind → Squares
standing cells side kind = standing_below cells side kind 50

-- the set of a side and a kind among a position's four sets
abbrev pub set_of : {B : Type 0} → Held B → Side → Kind → Squares
set_of h White Man = h.white_men
set_of h White King = h.white_kings
set_of h Black Man = h.black_men
set_of h Black King = h.black_kings

-- the piece on a square by the sets; no square is in two of them
abbrev pub held_at : (Side → Kind → Squares) → ℕ → Option Piece
held_at sets s =
    cond (set.contains (sets White Man) s) (Some (record { side = White; kind = Man }))
    (cond (set.contains (sets Black Man) s) (Some (record { side = Black; kind = Man }))
    (cond (set.contains (sets White King) s) (Some (record { side = White; kind = King }))
    (cond (set.contains (sets Black King) s) (Some (record { side = Black; kind = King })) None)))

-- the fifty cells of pieces on these sets of squares
unfoldable pub cells_of : (Side → Kind → Squares) → List (Option Piece)
cells_of sets = map (held_at sets) (range_with_len 1 50)

-- the cells are a position's, and each set is that of the squares where its pieces stand
pub record IsKept (g : Geometry) (cells : List (Option Piece)) (sets : Side → Kind → Squares) : Type 0 where
  pub position : IsPosition g cells
  pub standing_is : (side : Side) (kind : Kind) → standing cells side kind ≡ sets side kind
