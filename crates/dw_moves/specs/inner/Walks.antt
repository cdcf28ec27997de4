-- Captures as they are walked, jump by jump, and what is kept of them.
use Rattle.std.specs.Prelude.{◌≡◌, ℕ, ◌≤◌, ◌<◌, ◌⊎◌, ◌↔◌, false, Option, Some, None, IsSome, List, [], ◌∷◌, ◌++◌, map}
use Rattle.std.specs.FinSet as set
use Rattle.dw_board.specs.declared.board.Dir.{Dir}
use Rattle.dw_board.specs.declared.piece.Piece.{Piece}
use Rattle.dw_board.specs.Geometry.{Geometry, Squares}
use Rattle.dw_board.specs.Lists.{Member, NoRepeat}
use Rattle.dw_board.specs.Placement.{Placement, placed}
use Rattle.dw_moves.specs.Moves.{Stands, In, Jumps, Move, IsPathOf, Legal, last_of, ray}
use Rattle.dw_moves.specs.Order.{LexLess, Listed, HasLeastPath}
use Rattle.dw_moves.specs.inner.Plain.{quiet_to, takes_for}

-- ---- chains of jumps
-- jumps from s that take nothing twice and nothing that was taken before
pub record Chain (g : Geometry) (p : Placement) (piece : Piece) (s : ℕ) (taken : Squares)
    (landings over : List ℕ) : Type 0 where
  pub jumps : Jumps g p piece s landings over
  pub once : NoRepeat over
  pub fresh : (c : ℕ) → Member c over → set.contains taken c ≡ false

-- a capture so far: where it began, where it stands, what it took, and its path
abbrev pub so_far : ℕ → ℕ → Squares → List ℕ → Listed
so_far from at taken path = record { step = record { from = from; to = at; taken = taken }; path = path }

-- the same with one jump more, over c onto t
abbrev pub onward : Listed → ℕ → ℕ → Listed
onward b c t = so_far b.step.from t (set.insert b.step.taken c) (b.path ++ t ∷ [])

-- l is a capture so far with a chain of jumps after it
pub record GoesOn (g : Geometry) (p : Placement) (piece : Piece) (b l : Listed) : Type 0 where
  pub landings : List ℕ
  pub over : List ℕ
  pub chain : Chain g p piece b.step.to b.step.taken landings over
  pub from : l.step.from ≡ b.step.from
  pub to : l.step.to ≡ last_of b.step.to landings
  pub taken : l.step.taken ≡ set.union b.step.taken (set.from_list over)
  pub path : l.path ≡ b.path ++ landings

-- l is a capture so far with a chain of jumps after it, the first of them in this direction
pub record GoesTowards (g : Geometry) (p : Placement) (piece : Piece) (b : Listed) (d : Dir) (l : Listed) : Type 0 where
  pub c : ℕ
  pub t : ℕ
  pub jump : Member (c, t) (takes_for piece.kind p piece.side (ray g b.step.to d))
  pub fresh : set.contains b.step.taken c ≡ false
  pub rest : GoesOn g p piece (onward b c t) l

-- ---- the captures of a position
-- the number of pieces that a capture takes
abbrev pub number : Listed → ℕ
number l = set.len l.step.taken

-- l is a capture with one of its paths
pub record Captures (g : Geometry) (p : Placement) (l : Listed) : Type 0 where
  pub landings : List ℕ
  pub some : 0 < number l
  pub leads : IsPathOf g p l.step (number l) landings
  pub path : l.path ≡ l.step.from ∷ landings

-- l begins on this square with a jump in this direction
pub record Begins (g : Geometry) (p : Placement) (d : Dir) (from : ℕ) (l : Listed) : Type 0 where
  pub piece : Piece
  pub stands : Stands g p from piece
  pub goes : GoesTowards g (placed p from None) piece (so_far from from set.empty (from ∷ [])) d l

-- l begins on some square with a jump in this direction
abbrev pub BeginsTowards : Geometry → Placement → Dir → Listed → Type 0
BeginsTowards g p d l = (from : ℕ) × Begins g p d from l

-- ---- the content of a keeper, by its first content, all captures offered since, and its present content
-- the content stays
abbrev pub Stays : {K : Type 0} → (K → List Listed → K → Type 0) → K → K → Type 0
Stays {K} holds old new = (first : K) (xs : List Listed) → holds first xs old → holds first xs new

-- these captures join those that were offered
abbrev pub Gains : {K : Type 0} → (K → List Listed → K → Type 0) → List Listed → K → K → Type 0
Gains {K} holds more old new = (first : K) (xs : List Listed) → holds first xs old → holds first (xs ++ more) new

-- exactly the captures with property E are offered, each once or more often
pub record Offers {K : Type 0} (holds : K → List Listed → K → Type 0) (E : Listed → Type 0) (old new : K) : Type 0 where
  pub captures : List Listed
  pub exactly : (l : Listed) → Member l captures ↔ E l
  pub held : Gains holds captures old new

-- the captures of a list
abbrev pub These : List Listed → Listed → Type 0
These xs l = Member l xs

-- k is the greatest number of pieces that a capture takes, 0 if there is no capture
pub record IsMost (E : Listed → Type 0) (k : ℕ) : Type 0 where
  pub reached : (k ≡ 0) ⊎ ((l : Listed) × E l × (number l ≡ k))
  pub most : (l : Listed) → E l → number l ≤ k

-- one of those that take the greatest number has a property
abbrev pub Longest : (Listed → Type 0) → ℕ → (Listed → Type 0) → Type 0
Longest E k C = (l : Listed) × E l × (number l ≡ k) × C l

-- l makes this move; it is made on this path; it is this one
abbrev pub Makes : Move → Listed → Type 0
Makes m l = l.step ≡ m

abbrev pub Along : List ℕ → Listed → Type 0
Along path l = l.path ≡ path

abbrev pub Is : Listed → Listed → Type 0
Is l x = x ≡ l

-- k is the greatest number of pieces that a capture takes, and Kept holds
pub record Held (E : Listed → Type 0) (k : ℕ) (Kept : Type 0) : Type 0 where
  pub most : IsMost E k
  pub kept : Kept

-- l ends on this square
abbrev pub EndsOn : ℕ → Listed → Type 0
EndsOn s l = l.step.to ≡ s

-- the squares on which those that take k end
pub record EndsKept (E : Listed → Type 0) (k : ℕ) (ends : Squares) : Type 0 where
  pub exactly : (s : ℕ) → In s ends ↔ Longest E k (EndsOn s)

-- the moves of those that take k, each once
pub record MovesKept (E : Listed → Type 0) (k : ℕ) (moves : List Move) : Type 0 where
  pub exactly : (m : Move) → Member m moves ↔ Longest E k (Makes m)
  pub once : NoRepeat moves

abbrev pub MovesHeld : (Listed → Type 0) → ℕ → List Move → Type 0
MovesHeld E k moves = Held E k (MovesKept E k moves)

-- the move of one of them that is sought, if there is one
pub record OneKept (E C : Listed → Type 0) (k : ℕ) (found : Option Move) : Type 0 where
  pub is : (m : Move) → found ≡ Some m → Longest E k (λ l. Makes m l × C l)
  pub some : Longest E k C → IsSome found

-- the aim stays, and one of those that it is met by is held
pub record Sought {A : Type 0} (E : Listed → Type 0) (is_met_by : A → Listed → Type 0) (aim still : A) (k : ℕ)
    (found : Option Move) : Type 0 where
  pub same : still ≡ aim
  pub held : Held E k (OneKept E (is_met_by aim) k found)

-- l makes another move, which begins and ends where m does
abbrev pub IsTwin : Move → Listed → Type 0
IsTwin m l = (l.step.from ≡ m.from) × (l.step.to ≡ m.to) × (l.step ≡ m → ⊥)

-- the moves of a list, without their paths
abbrev pub steps_of : List Listed → List Move
steps_of list = map (λ l. l.step) list

-- l's move is in a list, on a path that is no greater
abbrev pub Covered : Listed → List Listed → Type 0
Covered l list = (r : Listed) × Member r list × (r.step ≡ l.step) × (LexLess l.path r.path → ⊥)

-- l joins a list: of the paths of its move the least is kept
pub record TakenIn (l : Listed) (list kept : List Listed) : Type 0 where
  pub from : (x : Listed) → Member x kept → (x ≡ l) ⊎ Member x list
  pub least : (x : Listed) → (x ≡ l) ⊎ Member x list → Covered x kept
  pub once : NoRepeat (steps_of list) → NoRepeat (steps_of kept)

-- the moves of those that take k, each with the least of its paths
pub record PathsKept (E : Listed → Type 0) (k : ℕ) (list : List Listed) : Type 0 where
  pub from : (l : Listed) → Member l list → Longest E k (Is l)
  pub least : (l : Listed) → Longest E k (Is l) → Covered l list
  pub once : NoRepeat (steps_of list)

abbrev pub PathsHeld : (Listed → Type 0) → ℕ → List Listed → Type 0
PathsHeld E k list = Held E k (PathsKept E k list)

-- ---- lists of moves with their paths
-- the numbers by which listed moves are sorted: the start, the end, and the path
abbrev pub sorted_by : Listed → List ℕ
sorted_by l = l.step.from ∷ l.step.to ∷ l.path

-- a quiet move with its path
abbrev pub quietly_listed : ℕ → ℕ → Listed
quietly_listed from to = record { step = quiet_to from to; path = from ∷ to ∷ [] }

-- a list has all legal moves, each once and with its least path
pub record HasAll (g : Geometry) (p : Placement) (list : List Listed) : Type 0 where
  pub legal : (l : Listed) → Member l list → Legal g p l.step
  pub paths : (l : Listed) → Member l list → HasLeastPath g p l
  pub all : (m : Move) → Legal g p m → Member m (steps_of list)
  pub once : NoRepeat (steps_of list)
