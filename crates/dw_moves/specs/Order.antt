-- The least path of a move, its key, and the order of moves.
use Rattle.std.specs.Prelude.{◌≡◌, ℕ, ◌<◌, ◌⊎◌, ◌↔◌, List, [], ◌∷◌, map, refl}
use Rattle.std.specs.Coded.{Coded, code_by, coded×, coded_ℕ, coded_list}
use Rattle.std.proofs.Common.{zero, suc}
use Rattle.std.specs.FinSet as set
use Rattle.dw_board.specs.Geometry.{Geometry}
use Rattle.dw_board.specs.Placement.{Placement}
use Rattle.dw_moves.specs.Moves.{Move, Quiet, IsBest, IsPathOf, Legal, move_code}
use Rattle.dw_board.specs.Lists.{Member}

-- lists of numbers in lexicographic order; the beginning of a list comes before it
abbrev pub LexLess : List ℕ → List ℕ → Type 0
LexLess [] [] = ⊥
LexLess [] (y ∷ ys) = Unit {0}
LexLess (x ∷ xs) [] = ⊥
LexLess (x ∷ xs) (y ∷ ys) = (x < y) ⊎ ((x ≡ y) × LexLess xs ys)

-- the squares on which a move that takes k pieces may land, one after another
abbrev pub LandsAt : Geometry → Placement → Move → ℕ → List ℕ → Type 0
LandsAt g p m zero landings = Quiet g p m.from m.to × (m.taken ≡ set.empty) × (landings ≡ m.to ∷ [])
LandsAt g p m (suc k) landings = IsPathOf g p m (suc k) landings

-- the squares on which a legal move may land: it takes as many pieces as can be taken
abbrev pub LandsOn : Geometry → Placement → Move → List ℕ → Type 0
LandsOn g p m landings = (k : ℕ) × IsBest g p k × LandsAt g p m k landings

-- m is a capture of as many pieces as can be taken, and these squares are its start and the landings of one of its
-- paths
pub record IsPathFor (g : Geometry) (p : Placement) (m : Move) (squares : List ℕ) : Type 0 where
  pub most : ℕ
  pub best : IsBest g p most
  pub some : 0 < most
  pub landings : List ℕ
  pub leads : IsPathOf g p m most landings
  pub are : squares ≡ m.from ∷ landings

-- the least path of a move, without its start
pub record IsLeastPath (g : Geometry) (p : Placement) (m : Move) (landings : List ℕ) : Type 0 where
  pub leads : LandsOn g p m landings
  pub least : (others : List ℕ) → LandsOn g p m others → LexLess others landings → ⊥

-- a list without its last element
abbrev pub front : List ℕ → List ℕ
front [] = []
front (s ∷ []) = []
front (s ∷ t ∷ ts) = s ∷ front (t ∷ ts)

-- the key of a move: its start, its end, and the squares between on its least path
abbrev pub IsKey : Geometry → Placement → Move → List ℕ → Type 0
IsKey g p m key = (landings : List ℕ) × IsLeastPath g p m landings × (key ≡ m.from ∷ m.to ∷ front landings)

-- a move comes before another one in the order of moves
abbrev pub Precedes : Geometry → Placement → Move → Move → Type 0
Precedes g p m n = (k : List ℕ) × (l : List ℕ) × IsKey g p m k × IsKey g p n l × LexLess k l

-- strictly ascending: each element comes before all that follow
abbrev pub IsAscending : {X : Type 0} → (X → X → Type 0) → List X → Type 0
IsAscending R [] = Unit {0}
IsAscending {X} R (x ∷ xs) = ((y : X) → Member y xs → R x y) × IsAscending R xs

-- a list is strictly ascending, and has exactly the things with property P
pub record IsListOf {X : Type 0} (R : X → X → Type 0) (P : X → Type 0) (xs : List X) : Type 0 where
  pub ascending : IsAscending R xs
  pub exactly : (x : X) → Member x xs ↔ P x

-- a move with a path, the start first
pub record Listed : Type 0 where
  pub step : Move
  pub path : List ℕ

-- a move with a path is stored as its parts
abbrev pub listed_code : Coded Listed
listed_code = code_by (Move × List ℕ) (coded× move_code (coded_list coded_ℕ)) (λ l. (
  l.step,
  l.path,
)) (λ p. record { step = p.0; path = p.1 }) (λ _. refl)

-- the path is the move's start and its least landings
abbrev pub HasLeastPath : Geometry → Placement → Listed → Type 0
HasLeastPath g p l = (landings : List ℕ) × IsLeastPath g p l.step landings × (l.path ≡ l.step.from ∷ landings)

-- the legal moves in ascending order, each with its least path
pub record AreListed (g : Geometry) (p : Placement) (list : List Listed) : Type 0 where
  pub in_order : IsListOf (Precedes g p) (Legal g p) (map (λ l. l.step) list)
  pub paths : (l : Listed) → Member l list → HasLeastPath g p l
