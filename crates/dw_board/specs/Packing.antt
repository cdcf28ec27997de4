-- The pieces on a board, as three sets: white's pieces, black's pieces and all kings.
use Rattle.std.specs.Prelude.{◌≡◌, List, Option}
use Rattle.std.specs.FinSet as set
use Rattle.dw_board.specs.declared.piece.Side.{Side}
use Rattle.dw_board.specs.declared.piece.Side.TheVariants.{White, Black}
use Rattle.dw_board.specs.declared.piece.Kind.{Kind}
use Rattle.dw_board.specs.declared.piece.Kind.TheVariants.{Man, King}
use Rattle.dw_board.specs.declared.piece.Piece.{Piece}
use Rattle.dw_board.specs.Geometry.{Geometry, Squares}
use Rattle.dw_board.specs.Placement.{IsPosition}
use Rattle.dw_board.specs.PieceSets.{standing, cells_of}

-- the squares of a side's pieces of a kind, from the squares of white's pieces, of black's pieces and of all kings
abbrev pub parted : Squares → Squares → Squares → Side → Kind → Squares
parted white black kings White Man = set.difference white kings
parted white black kings White King = set.intersection white kings
parted white black kings Black Man = set.difference black kings
parted white black kings Black King = set.intersection black kings

-- the fifty cells of these white and black pieces and kings
abbrev pub packed_cells : Squares → Squares → Squares → List (Option Piece)
packed_cells white black kings = cells_of (parted white black kings)

-- the squares on which a piece of this side stands
abbrev pub all_standing : List (Option Piece) → Side → Squares
all_standing cells side = set.union (standing cells side Man) (standing cells side King)

-- the squares on which a king stands
abbrev pub kings_standing : List (Option Piece) → Squares
kings_standing cells = set.union (standing cells White King) (standing cells Black King)

-- the cells are a position's, and the sets are those of white's pieces, of black's and of all kings
pub record IsPacked (g : Geometry) (cells : List (Option Piece)) (white black kings : Squares) : Type 0 where
  pub position : IsPosition g cells
  pub white_is : all_standing cells White ≡ white
  pub black_is : all_standing cells Black ≡ black
  pub kings_are : kings_standing cells ≡ kings
