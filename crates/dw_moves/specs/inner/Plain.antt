-- Plain lists of the squares that a piece reaches, and of the jumps that it has: what the code makes.
use Rattle.std.specs.Prelude.{◌≡◌, ◌↔◌, ℕ, Option, Some, None, List, [], ◌∷◌, ◌++◌, Bool, true, false, length, map, not}
use Rattle.std.specs.Prelude.{cond}
use Rattle.std.specs.List.{flat_map}
use Rattle.std.proofs.Common.{zero, suc}
use Rattle.dw_board.specs.declared.piece.Side.{Side}
use Rattle.dw_board.specs.declared.piece.Side.TheVariants.{White, Black}
use Rattle.dw_board.specs.declared.piece.Kind.{Kind}
use Rattle.dw_board.specs.declared.piece.Kind.TheVariants.{Man, King}
use Rattle.dw_board.specs.declared.board.Dir.{Dir}
use Rattle.dw_board.specs.declared.board.Dir.TheVariants.{UpLeft, UpRight, DownLeft, DownRight}
use Rattle.dw_board.specs.declared.piece.Piece.{Piece}
use Rattle.dw_board.specs.Geometry.{Geometry, OnBoard, squares, is_down, step}
use Rattle.dw_board.specs.Placement.{Placement, at, same_side}
use Rattle.std.specs.FinSet as set
use Rattle.dw_moves.specs.Moves.{IsForward, Move, ray}
use Rattle.dw_board.specs.Lists.{Member, NoRepeat}
use Rattle.dw_board.specs.Placement.{other}

-- the numbers from 1 to n
abbrev pub numbers_to : ℕ → List ℕ
numbers_to zero = []
numbers_to (suc n) = numbers_to n ++ suc n ∷ []

abbrev pub dirs : List Dir
dirs = UpLeft ∷ UpRight ∷ DownLeft ∷ DownRight ∷ []

-- the empty squares at the front
abbrev pub free_front : Placement → List ℕ → List ℕ
free_front cells [] = []
free_front cells (t ∷ ts) = elim (at cells t) [ None ↦ t ∷ free_front cells ts | Some piece ↦ [] ]

-- the first square as a list, if it is empty
abbrev pub free_next : Placement → List ℕ → List ℕ
free_next cells [] = []
free_next cells (t ∷ ts) = elim (at cells t) [ None ↦ t ∷ [] | Some piece ↦ [] ]

abbrev pub landings_for : Kind → Placement → List ℕ → List ℕ
landings_for Man = free_next
landings_for King = free_front

abbrev pub over_enemy : Placement → Side → Kind → Option Piece → ℕ → List ℕ → List (ℕ × ℕ)
over_enemy cells side kind_of None c cs = []
over_enemy cells side kind_of (Some piece) c cs =
    elim (same_side piece.side (other side)) [ true ↦ map (λ t. (c, t)) (landings_for kind_of cells cs) | false ↦ [] ]

-- the pairs of a piece that a man, or a king, can take on a ray, and a square where it lands
abbrev pub man_takes : Placement → Side → List ℕ → List (ℕ × ℕ)
man_takes cells side [] = []
man_takes cells side (c ∷ cs) = over_enemy cells side Man (at cells c) c cs

abbrev pub king_takes : Placement → Side → List ℕ → List (ℕ × ℕ)
king_takes cells side [] = []
king_takes cells side (c ∷ cs) = elim (at cells c) [
  | None ↦ king_takes cells side cs
  | Some piece ↦ over_enemy cells side King (Some piece) c cs
]

abbrev pub takes_for : Kind → Placement → Side → List ℕ → List (ℕ × ℕ)
takes_for Man = man_takes
takes_for King = king_takes

-- a piece on s can take the one on c in a direction, and lands on free squares after it, if there are any
abbrev pub TakesOver : Kind → Geometry → Placement → Side → ℕ → Dir → ℕ → Type 0
TakesOver k g p side s d c = takes_for k p side (ray g s d) ≡ map (λ t. (c, t)) (landings_for k p (ray g c d))

abbrev pub jump_list : Geometry → Placement → Piece → ℕ → List (ℕ × ℕ)
jump_list g cells piece s = flat_map (λ d. takes_for piece.kind cells piece.side (ray g s d)) dirs

-- whether a side's men go this way
abbrev pub is_forward : Side → Dir → Bool
is_forward White d = not (is_down d)
is_forward Black d = is_down d

-- whether a piece may go this way if it takes nothing
abbrev pub may_go : Kind → Side → Dir → Bool
may_go Man side d = is_forward side d
may_go King side d = true

-- the squares where a piece may go in one direction
abbrev pub goes : Kind → Geometry → Placement → Side → ℕ → Dir → List ℕ
goes k g p side s d = cond (may_go k side d) (landings_for k p (ray g s d)) []

-- the squares where a piece may go
abbrev pub quiet_for : Kind → Geometry → Placement → Side → ℕ → List ℕ
quiet_for k g p side s = flat_map (goes k g p side s) dirs

-- the squares where the content of a square may go, if it is a piece of the side to move
abbrev pub targets_of : Geometry → Placement → ℕ → Option Piece → List ℕ
targets_of g p s None = []
targets_of g p s (Some piece) = cond (same_side piece.side p.turn) (quiet_for piece.kind g p p.turn s) []

abbrev pub targets : Geometry → Placement → ℕ → List ℕ
targets g p s = targets_of g p s (at p s)

-- all quiet moves
abbrev pub quiet_pairs : Geometry → Placement → List (ℕ × ℕ)
quiet_pairs g p = flat_map (λ s. map (λ t. (s, t)) (targets g p s)) (numbers_to (squares g))

-- a move that takes nothing
abbrev pub quiet_to : ℕ → ℕ → Move
quiet_to from to = record { from = from; to = to; taken = set.empty }

-- these are all pairs that P holds of, each once
pub record AreThose (P : ℕ → ℕ → Type 0) (pairs : List (ℕ × ℕ)) : Type 0 where
  pub exactly : (s t : ℕ) → Member (s, t) pairs ↔ P s t
  pub once : NoRepeat pairs

-- new is old, and after it the elements made of all pairs that P holds of, each once
pub record Adds {X : Type 0} (made : ℕ → ℕ → X) (P : ℕ → ℕ → Type 0) (old new : List X) : Type 0 where
  pub pairs : List (ℕ × ℕ)
  pub those : AreThose P pairs
  pub are : new ≡ old ++ map (λ q. made q.0 q.1) pairs

-- P holds of n pairs, each counted once
pub record Counts (P : ℕ → ℕ → Type 0) (n : ℕ) : Type 0 where
  pub pairs : List (ℕ × ℕ)
  pub those : AreThose P pairs
  pub count : length pairs ≡ n

-- a man of the side to move goes from s to t
pub record ManSteps (g : Geometry) (p : Placement) (d : Dir) (s t : ℕ) : Type 0 where
  pub on : OnBoard g s
  pub there : at p s ≡ Some (record { side = p.turn; kind = Man })
  pub ahead : IsForward p.turn d
  pub steps : step g s d ≡ Some t
  pub free : at p t ≡ None

-- a king of the side to move goes from s to t
pub record KingGoes (g : Geometry) (p : Placement) (s t : ℕ) : Type 0 where
  pub on : OnBoard g s
  pub there : at p s ≡ Some (record { side = p.turn; kind = King })
  pub goes : Member t (quiet_for King g p p.turn s)

-- a king of the side to move goes from s to t in this direction
pub record KingLands (g : Geometry) (p : Placement) (d : Dir) (s t : ℕ) : Type 0 where
  pub on : OnBoard g s
  pub there : at p s ≡ Some (record { side = p.turn; kind = King })
  pub lands : Member t (landings_for King p (ray g s d))

-- the next square, if nothing stands on it
abbrev pub free_if : Placement → Option ℕ → Option ℕ
free_if p None = None
free_if p (Some t) = elim (at p t) [ None ↦ Some t | Some piece ↦ None ]

abbrev pub free_step : Geometry → Placement → ℕ → Dir → Option ℕ
free_step g p s d = free_if p (step g s d)

-- no jump at all
abbrev pub no_jumps : List (ℕ × ℕ)
no_jumps = []
