-- A law of neighbours, for every board.
use Rattle.std.specs.Prelude.{◌≡◌, ◌↔◌, List}
use Rattle.dw_board.specs.Geometry.{Geometry}
use Rattle.dw_board.specs.Placement.{Placement}
use Rattle.dw_board.specs.Lists.{Member}
use Rattle.dw_mend.specs.Changes.{Change, changes, IsNeighbour, AreNeighbours}

-- a position has only one list of neighbours: just the positions that a change makes, each with that change
pub record OneListOfNeighbours : Type 0 where
  pub only : (g : Geometry) (p : Placement) (all others : List (Change × Placement)) →
      AreNeighbours g p all → AreNeighbours g p others → all ≡ others
  pub just : (g : Geometry) (p : Placement) (all : List (Change × Placement)) → AreNeighbours g p all →
      (c : Change) (q : Placement) → Member (c, q) all ↔ (Member c (changes g) × IsNeighbour g p c q)
