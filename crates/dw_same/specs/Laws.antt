-- Laws over the definitions.
use Rattle.std.specs.Prelude.{◌≡◌, ℕ}
use Rattle.dw_board.specs.Geometry.{Geometry, IsBoard, OnBoard}
use Rattle.dw_board.specs.Placement.{IsPosition, Placement, at}
use Rattle.dw_same.specs.Turning.{AreSame, opposite, recoloured, turned}

-- each square of a turned position has the piece of the opposite square, in the other colour
abbrev pub TurnedSquares : Type 0
TurnedSquares = (g : Geometry) → IsBoard g → (p : Placement) (s : ℕ) → OnBoard g s
    → at (turned g p) s ≡ recoloured (at p (opposite g s))

-- a position that is turned twice is itself again
abbrev pub TurnedTwice : Type 0
TurnedTwice = (g : Geometry) → IsBoard g → (p : Placement) → IsPosition g p.cells → turned g (turned g p) ≡ p

-- no position is its own turned one, for the other side is to move
abbrev pub TurnedDiffers : Type 0
TurnedDiffers = (g : Geometry) (p : Placement) → p ≡ turned g p → ⊥

-- being the same is an equivalence
pub record SameIsEquivalence : Type 0 where
  pub reflexive : (g : Geometry) (p : Placement) → AreSame g p p
  pub symmetric : (g : Geometry) → IsBoard g → (p q : Placement) → IsPosition g q.cells
      → AreSame g p q → AreSame g q p
  pub transitive : (g : Geometry) → IsBoard g → (p q r : Placement) → IsPosition g r.cells
      → AreSame g p q → AreSame g q r → AreSame g p r
