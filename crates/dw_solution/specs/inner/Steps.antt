-- The moves of a tree in a row.
use Rattle.std.specs.Prelude.{◌≡◌, ℕ, ◌==◌, ◌+◌, ◌<◌, ◌≤◌, nat_lt, if◌then◌else◌, List, [], ◌∷◌, ◌++◌, length, take}
use Rattle.std.specs.Prelude.{slice_get, Some, Option, MatchOption}
use Rattle.dw_board.specs.Geometry.{Geometry}
use Rattle.dw_board.specs.Lists.{Member}
use Rattle.dw_board.specs.Placement.{Placement}
use Rattle.dw_moves.specs.Moves.{Move, Legal, play}
use Rattle.dw_notation.specs.Text.{ArePlayable}
use Rattle.dw_solution.specs.Tree.{Tree, over, branch, lines_of, AreApart, IsTreeOf}
use Rattle.dw_solution.specs.declared.step.TreeStep.{TreeStep}

-- Sealed: the moves at a depth that come before any move less deep, with what stands after each. The clauses of a tree
-- of lines say all that is to be known of it.
abbrev pub tree_at : {B : Type 0} → List (TreeStep B) → ℕ → Tree
tree_at [] depth = over
tree_at (s ∷ steps) depth =
    if s.depth == depth then branch s.mv (tree_at steps (depth + 1)) (tree_at steps depth)
    else if nat_lt depth s.depth then tree_at steps depth
    else over

-- Sealed: the tree of all steps
abbrev pub whole_tree : {B : Type 0} → List (TreeStep B) → Tree
whole_tree steps = tree_at steps 0

-- moves that follow one another, the first one at a depth
abbrev pub chain : {B : Type 0} → ℕ → List Move → List (TreeStep B)
chain depth [] = []
chain depth (m ∷ moves) = record { depth = depth; mv = m } ∷ chain (depth + 1) moves

-- the last of some lines, or no move
abbrev pub last_line : List (List Move) → List Move
last_line [] = []
last_line (l ∷ []) = l
last_line (l ∷ k ∷ lines) = last_line (k ∷ lines)

-- the numbers of steps at which lines end: the steps up to each of them are the tree of the lines up to there
abbrev pub AreEnds : {B : Type 0} → List (TreeStep B) → List ℕ → Type 0
AreEnds steps ends = (place end : ℕ) → slice_get ends place ≡ Some end → (end ≤ length steps)
    × IsTreeOf (take (place + 1) (lines_of (whole_tree steps))) (whole_tree (take end steps))

-- Sealed: what holds of the parts of a tree of lines. The clauses of a tree say all that is to be known of it.
pub record IsHeld {B : Type 0} (steps : List (TreeStep B)) (places : List ℕ) (line : List Move) : Type 0
  where
    pub apart : AreApart (whole_tree steps)
    pub last : line ≡ last_line (lines_of (whole_tree steps))
    pub many : length places ≡ length (lines_of (whole_tree steps))
    pub ends : AreEnds steps places

-- a line parts from another: neither begins the other
pub record Parts (a b : List Move) : Type 0 where
  pub common : List Move
  pub move : Move
  pub instead : Move
  pub rest : List Move
  pub others : List Move
  pub line : a ≡ common ++ move ∷ rest
  pub other : b ≡ common ++ instead ∷ others
  pub differ : move ≡ instead → ⊥

-- a line can stand after some lines: it has a move, and parts from the last of them
abbrev pub MayFollow : List (List Move) → List Move → Type 0
MayFollow [] line = (m : Move) × (rest : List Move) × (line ≡ m ∷ rest)
MayFollow (l ∷ lines) line = Parts (last_line (l ∷ lines)) line

-- all moves of a tree can be played
abbrev pub IsPlayable : Geometry → Placement → Tree → Type 0
IsPlayable g p over = Unit {0}
IsPlayable g p (branch m behind others) =
    Legal g p m × IsPlayable g (play g p m) behind × IsPlayable g p others

-- the first of the moves at a depth, and the steps after it; or there is none
abbrev pub IsFirstAt : {B : Type 0} → List (TreeStep B) → ℕ → Option (Move × List (TreeStep B)) → Type 0
IsFirstAt steps depth found = MatchOption found (tree_at steps depth ≡ over)
    (λ f. (tree_at steps depth ≡ branch f.0 (tree_at f.1 (depth + 1)) (tree_at f.1 depth))
    × (length f.1 < length steps))

-- Sealed: all of these lines can be played. The clauses of first lines say all that is to be known of it.
abbrev pub AreAllPlayable : Geometry → Placement → List (List Move) → Type 0
AreAllPlayable g p lines = (l : List Move) → Member l lines → ArePlayable g p l
