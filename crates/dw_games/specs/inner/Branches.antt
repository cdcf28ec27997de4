-- How the nodes of a tree hang together, and the paths that lead to them.
use Rattle.std.specs.Prelude.{◌≡◌, ℕ, ◌+◌, ◌≤◌, ◌<◌, Option, Some, None, List, [], ◌∷◌, ◌++◌, length, map, slice_get}
use Rattle.std.specs.Prelude.{slice_index_or, slice_set}
use Rattle.dw_board.specs.Geometry.{Geometry}
use Rattle.dw_board.specs.Lists.{Member}
use Rattle.dw_board.specs.Placement.{Placement}
use Rattle.dw_moves.specs.Moves.{Move}
use Rattle.dw_games.specs.Play.{after}
use Rattle.dw_games.specs.Walk.{place_of, CanFollow}
use Rattle.dw_games.specs.declared.branches.Branch.{Branch}
use Rattle.dw_games.specs.declared.branches.ChildOrLast.{ChildOrLast}
use Rattle.dw_games.specs.declared.branches.ChildOrLast.TheVariants.{Child, Last}

-- the move before a node, and the node before that move, or none at the root
pub record BranchStep : Type 0 where
  pub parent : Option ℕ
  pub mv : Move

-- Sealed: the steps of nodes. The clauses of a tree say all that is to be known of them.
abbrev pub steps_of : {B : Type 0} → List (Branch B) → List BranchStep
steps_of branches = map (λ b. record { parent = place_of b.parent; mv = b.mv }) branches

-- their first children and next siblings
abbrev pub firsts_of : {B : Type 0} → List (Branch B) → List (Option ℕ)
firsts_of branches = map (λ b. place_of b.first_child) branches

abbrev pub nexts_of : {B : Type 0} → List (Branch B) → List (Option ℕ)
nexts_of branches = map (λ b. place_of b.next_sibling) branches

-- the positions after their moves
abbrev pub positions_of : {B : Type 0} → List (Branch B) → List Placement
positions_of branches = map (λ b. b.position) branches

-- the path to a node, or the empty one to the root
abbrev pub path_to : List (List Move) → Option ℕ → List Move
path_to paths None = []
path_to paths (Some n) = slice_index_or paths n []

-- to these paths those of more steps are added in turn
abbrev pub grown : List (List Move) → List BranchStep → List (List Move)
grown paths [] = paths
grown paths (s ∷ steps) = grown (paths ++ (path_to paths s.parent ++ s.mv ∷ []) ∷ []) steps

-- Sealed: the paths to all nodes. The clauses of a tree say all that is to be known of them.
abbrev pub paths_of : List BranchStep → List (List Move)
paths_of steps = grown [] steps

-- a node stands at this place whose move is made after another one, or at the root
abbrev pub IsChild : List BranchStep → Option ℕ → ℕ → Type 0
IsChild steps parent n = (m : Move) × (slice_get steps n ≡ Some (record { parent = parent; mv = m }))

-- the first such node from a place on, or that there is none
abbrev pub IsFirstChild : List BranchStep → Option ℕ → ℕ → Option ℕ → Type 0
IsFirstChild steps parent from None = (n : ℕ) → from ≤ n → IsChild steps parent n → ⊥
IsFirstChild steps parent from (Some n) = (from ≤ n) × IsChild steps parent n
    × ((k : ℕ) → from ≤ k → k < n → IsChild steps parent k → ⊥)

-- the last such node, or that there is none
abbrev pub IsLastChild : List BranchStep → Option ℕ → Option ℕ → Type 0
IsLastChild steps parent None = IsFirstChild steps parent 0 None
IsLastChild steps parent (Some n) = IsChild steps parent n × IsFirstChild steps parent (n + 1) None

-- a node at this place, or the root
abbrev pub IsPlace : List BranchStep → Option ℕ → Type 0
IsPlace steps None = Unit {0}
IsPlace steps (Some n) = n < length steps

-- each step stands once, after that of its parent, and the links lead to the first child and to the next sibling
pub record AreLinked (steps : List BranchStep) (firsts nexts : List (Option ℕ)) : Type 0 where
  pub many : length firsts ≡ length steps
  pub many_too : length nexts ≡ length steps
  pub above : (n k : ℕ) → IsChild steps (Some n) k → n < k
  pub once : (j k : ℕ) (s : BranchStep) → slice_get steps j ≡ Some s → slice_get steps k ≡ Some s → j ≡ k
  pub children : (k : ℕ) (r : Option ℕ) → slice_get firsts k ≡ Some r → IsFirstChild steps (Some k) 0 r
  pub siblings : (k : ℕ) (r parent : Option ℕ) (m : Move) → slice_get nexts k ≡ Some r
      → slice_get steps k ≡ Some (record { parent = parent; mv = m }) → IsFirstChild steps parent (k + 1) r

-- Sealed: nodes hang together. The clauses of a tree say all that is to be known of it.
abbrev pub Hang : {B : Type 0} → List (Branch B) → Type 0
Hang branches = AreLinked (steps_of branches) (firsts_of branches) (nexts_of branches)

-- each move can follow the moves before it
abbrev pub ArePlayed : Geometry → Placement → List (List Move) → Type 0
ArePlayed g start paths = (b : List Move) (m : Move) → Member (b ++ m ∷ []) paths → CanFollow g start b m

-- Sealed: the nodes of a tree that starts from a position. The clauses of a tree say all that is to be known of it.
pub record IsPlayedTree {B : Type 0} (g : Geometry) (start : Placement) (branches : List (Branch B)) : Type 0 where
  pub hang : Hang branches
  pub played : ArePlayed g start (paths_of (steps_of branches))
  pub positions : positions_of branches ≡ map (after g start) (paths_of (steps_of branches))

-- the first children and the next siblings with a new node linked: after the last child of its parent, if there is one
abbrev pub first_linked : List (Option ℕ) → (last parent : Option ℕ) → ℕ → List (Option ℕ)
first_linked firsts (Some last) parent n = firsts
first_linked firsts None None n = firsts
first_linked firsts None (Some parent) n = slice_set firsts parent (Some n)

abbrev pub next_linked : List (Option ℕ) → (last : Option ℕ) → ℕ → List (Option ℕ)
next_linked nexts None n = nexts
next_linked nexts (Some last) n = slice_set nexts last (Some n)

-- a node with this step; or no node has it, and this is the last one with this parent
abbrev pub IsChildOrLast : List BranchStep → Option ℕ → Move → ChildOrLast → Type 0
IsChildOrLast steps parent m (Child n) = slice_get steps n.0 ≡ Some (record { parent = parent; mv = m })
IsChildOrLast steps parent m (Last last) = ((n : ℕ) → slice_get steps n ≡ Some (record { parent = parent; mv = m }) → ⊥)
    × IsLastChild steps parent (place_of last)

-- the place after a node, or the first one of all
abbrev pub behind : Option ℕ → ℕ
behind None = 0
behind (Some n) = n + 1

-- a child of a node, if there is a node at all
abbrev pub IsChildOrNone : List BranchStep → Option ℕ → Option ℕ → Type 0
IsChildOrNone steps parent None = Unit {0}
IsChildOrNone steps parent (Some n) = IsChild steps parent n

-- no node before this place has this step
abbrev pub IsUnseen : List BranchStep → Option ℕ → Move → ℕ → Type 0
IsUnseen steps parent m end = (n : ℕ) → n < end → slice_get steps n ≡ Some (record { parent = parent; mv = m }) → ⊥
