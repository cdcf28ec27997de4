-- Walking a tree: from a beginning to those that are one move longer.
use Rattle.std.specs.Prelude.{◌≡◌, ℕ, ◌≤◌, ◌<◌, Option, Some, None, List, [], ◌∷◌, ◌++◌, slice_get, option_map}
use Rattle.std.specs.Prelude.{length}
use Rattle.dw_board.specs.Geometry.{Geometry}
use Rattle.dw_board.specs.Placement.{Placement}
use Rattle.dw_moves.specs.Moves.{Move, Legal}
use Rattle.dw_games.specs.Play.{after}
use Rattle.dw_games.specs.declared.movetext.TheConstants.{MAX_PATH}
use Rattle.dw_games.specs.declared.branches.Node.{Node}

-- the value of a tree: the position that it starts from, and its beginnings, in the order of their places
pub record PlayedTree : Type 0 where
  pub start : Placement
  pub paths : List (List Move)

-- a tree may go on from a beginning by this move: it is legal there, and the path is not too long
pub record CanFollow (g : Geometry) (start : Placement) (beginning : List Move) (m : Move) : Type 0 where
  pub legal : Legal g (after g start beginning) m
  pub short : length beginning < MAX_PATH

-- the place of a node in the tree, or none for the root
abbrev pub place_of : Option Node → Option ℕ
place_of node = option_map (λ n. n.0) node

-- the beginning that leads to a node, which the tree has at the node's place; the empty one at the root
abbrev pub beginning_at : List (List Move) → Option ℕ → Option (List Move)
beginning_at tree None = Some []
beginning_at tree (Some n) = slice_get tree n

-- at this place a tree has a beginning with one move more
abbrev pub GoesOn : List (List Move) → List Move → ℕ → Type 0
GoesOn tree beginning n = (m : Move) × (slice_get tree n ≡ Some (beginning ++ m ∷ []))

-- the first place, not below `from`, at which a beginning goes on by one move; or none, if there is no such place
abbrev pub IsNext : List (List Move) → List Move → ℕ → Option ℕ → Type 0
IsNext tree beginning from None = (n : ℕ) → from ≤ n → GoesOn tree beginning n → ⊥
IsNext tree beginning from (Some n) = (from ≤ n) × GoesOn tree beginning n
    × ((k : ℕ) → from ≤ k → k < n → GoesOn tree beginning k → ⊥)
