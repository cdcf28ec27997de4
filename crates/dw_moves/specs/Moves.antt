-- Moves: the legal moves of a position, and the position after a move.
use Rattle.std.specs.Prelude.{◌≡◌, ℕ, ◌≤◌, ◌<◌, ◌↔◌, true, false, Some, None, List, [], ◌∷◌, ◌++◌, length, refl}
use Rattle.std.specs.Coded.{Coded, code_by, coded×, coded_ℕ}
use Rattle.std.proofs.Common.{zero, suc}
use Rattle.std.specs.FinSet as set
use Rattle.dw_board.specs.Lists.{Member, NoRepeat}
use Rattle.dw_board.specs.declared.board.Dir.{Dir}
use Rattle.dw_board.specs.declared.piece.Side.{Side}
use Rattle.dw_board.specs.declared.piece.Side.TheVariants.{White, Black}
use Rattle.dw_board.specs.declared.piece.Kind.{Kind}
use Rattle.dw_board.specs.declared.piece.Kind.TheVariants.{Man}
use Rattle.dw_board.specs.declared.piece.Piece.{Piece}
use Rattle.dw_board.specs.Geometry.{Geometry, step, OnBoard, is_down, Squares}
use Rattle.dw_board.specs.Placement.{Placement, at, placed, carried, other}
use Rattle.dw_board.specs.SquareSet.{word_of}
use Rattle.std.specs.Prelude.{IsTrue}
use Rattle.std.specs.Hash as fed

-- the first n squares met on the way from s in a direction, fewer where the board ends
abbrev pub ray_of : Geometry → ℕ → ℕ → Dir → List ℕ
ray_of g zero s d = []
ray_of g (suc n) s d = elim (step g s d) [ None ↦ [] | Some t ↦ t ∷ ray_of g n t d ]

-- all squares met on the way from s in a direction, the nearest first
abbrev pub ray : Geometry → ℕ → Dir → List ℕ
ray g s d = ray_of g g.rows s d

-- nothing stands on any of these squares
abbrev pub AllEmpty : Placement → List ℕ → Type 0
AllEmpty p [] = Unit {0}
AllEmpty p (s ∷ ss) = (at p s ≡ None) × AllEmpty p ss

-- a direction is forward for the men of a side: up for White, down for Black
abbrev pub IsForward : Side → Dir → Type 0
IsForward White d = is_down d ≡ false
IsForward Black d = is_down d ≡ true

-- a piece of the side to move stands on a square
pub record Stands (g : Geometry) (p : Placement) (s : ℕ) (piece : Piece) : Type 0 where
  pub on_board : OnBoard g s
  pub there : at p s ≡ Some piece
  pub own : piece.side ≡ p.turn

-- a quiet move: on one ray nothing stands between from and to, and nothing on to; a man goes one square forward
pub record Quiet (g : Geometry) (p : Placement) (from to : ℕ) : Type 0 where
  pub piece : Piece
  pub stands : Stands g p from piece
  pub dir : Dir
  pub between : List ℕ
  pub beyond : List ℕ
  pub on_ray : ray g from dir ≡ between ++ to ∷ beyond
  pub clear : AllEmpty p between
  pub free : at p to ≡ None
  pub man : piece.kind ≡ Man → (between ≡ []) × IsForward p.turn dir

-- n is the number of quiet moves: a list holds each of them once, and has n of them
pub record IsQuietCount (g : Geometry) (p : Placement) (n : ℕ) : Type 0 where
  pub moves : List (ℕ × ℕ)
  pub exactly : (from to : ℕ) → Member (from, to) moves ↔ Quiet g p from to
  pub once : NoRepeat moves
  pub count : length moves ≡ n

-- a piece jumps from s over an enemy on c to t: on one ray all squares between s and c are empty, and all after c up to
-- t; for a man c is next to s, and t next to c
pub record Jump (g : Geometry) (p : Placement) (piece : Piece) (s c t : ℕ) : Type 0 where
  pub dir : Dir
  pub before : List ℕ
  pub behind : List ℕ
  pub beyond : List ℕ
  pub on_ray : ray g s dir ≡ before ++ c ∷ (behind ++ t ∷ beyond)
  pub clear : AllEmpty p before
  pub enemy : (k : Kind) × (at p c ≡ Some (record { side = other piece.side; kind = k }))
  pub clear_behind : AllEmpty p behind
  pub free : at p t ≡ None
  pub man : piece.kind ≡ Man → (before ≡ []) × (behind ≡ [])

-- jumps one after another with one piece from s: it lands on each of the first list, over each of the second
abbrev pub Jumps : Geometry → Placement → Piece → ℕ → List ℕ → List ℕ → Type 0
Jumps g p piece s [] [] = Unit {0}
Jumps g p piece s (t ∷ ts) (c ∷ cs) = Jump g p piece s c t × Jumps g p piece t ts cs
Jumps g p piece s [] (c ∷ cs) = ⊥
Jumps g p piece s (t ∷ ts) [] = ⊥

-- a path of jumps, perhaps none: the square that was left counts as empty, jumped pieces stay, none is jumped twice
pub record Path (g : Geometry) (p : Placement) (from : ℕ) (landings taken : List ℕ) : Type 0 where
  pub piece : Piece
  pub stands : Stands g p from piece
  pub jumps : Jumps g (placed p from None) piece from landings taken
  pub once : NoRepeat taken

-- k is the greatest number of pieces that a path takes, 0 if nothing can be taken
pub record IsBest (g : Geometry) (p : Placement) (k : ℕ) : Type 0 where
  pub reached : 0 < k → (from : ℕ) × (landings : List ℕ) × (taken : List ℕ) × Path g p from landings taken
      × (length taken ≡ k)
  pub most : (from : ℕ) (landings taken : List ℕ) → Path g p from landings taken → length taken ≤ k

-- something can be taken
abbrev pub CanCapture : Geometry → Placement → Type 0
CanCapture g p = (from : ℕ) × (landings : List ℕ) × (taken : List ℕ) × Path g p from landings taken × (0 < length taken)

-- a move: its start, its end, and the squares of the taken pieces
pub record Move : Type 0 where
  pub from : ℕ
  pub to : ℕ
  pub taken : Squares

-- a move is stored as its parts
abbrev pub move_code : Coded Move
move_code =
    code_by (ℕ × (ℕ × Squares)) (coded× coded_ℕ (coded× coded_ℕ (set.code coded_ℕ))) (λ m. (m.from, (m.to, m.taken)))
    (λ p. record { from = p.0; to = p.1.0; taken = p.1.1 }) (λ _. refl)

-- the square where jumps from s end
abbrev pub last_of : ℕ → List ℕ → ℕ
last_of s [] = s
last_of s (t ∷ ts) = last_of t ts

-- m can be played with these landings, and takes k pieces
pub record IsPathOf (g : Geometry) (p : Placement) (m : Move) (k : ℕ) (landings : List ℕ) : Type 0 where
  pub over : List ℕ
  pub path : Path g p m.from landings over
  pub count : length over ≡ k
  pub ends : last_of m.from landings ≡ m.to
  pub takes : m.taken ≡ set.from_list over

-- with k the greatest number: a quiet move if it is 0, else a capture of k pieces
abbrev pub LegalAt : Geometry → Placement → ℕ → Move → Type 0
LegalAt g p zero m = Quiet g p m.from m.to × (m.taken ≡ set.empty)
LegalAt g p (suc k) m = (landings : List ℕ) × IsPathOf g p m (suc k) landings

-- a legal move: a quiet one if nothing can be taken, else a capture of the greatest number
abbrev pub Legal : Geometry → Placement → Move → Type 0
Legal g p m = (k : ℕ) × IsBest g p k × LegalAt g p k m

-- these are the legal moves, each once
pub record AreLegal (g : Geometry) (p : Placement) (moves : List Move) : Type 0 where
  pub exactly : (m : Move) → Member m moves ↔ Legal g p m
  pub once : NoRepeat moves

-- the position after a move: the piece is on its last square, taken pieces are gone, and the other side is to move
abbrev pub play : Geometry → Placement → Move → Placement
play g p m = record (carried g p m.from m.to m.taken) { turn = other p.turn }

-- the side to move has no legal move
abbrev pub NoMove : Geometry → Placement → Type 0
NoMove g p = (m : Move) → Legal g p m → ⊥

-- a square is in a set
abbrev pub In : ℕ → Squares → Type 0
In s v = IsTrue (set.contains v s)

-- the squares on which a legal capture ends
abbrev pub AreEnds : Geometry → Placement → Squares → Type 0
AreEnds g p ends = (s : ℕ) → In s ends ↔ (m : Move) × Legal g p m × (0 < set.len m.taken) × (m.to ≡ s)

-- another legal capture begins and ends where a move does
abbrev pub SharesEnds : Geometry → Placement → Move → Type 0
SharesEnds g p m = (n : Move) × Legal g p n × (0 < set.len n.taken) × (n.from ≡ m.from) × (n.to ≡ m.to) × (n ≡ m → ⊥)

-- the bytes that a move feeds a hasher: its squares, and the word of its taken pieces
abbrev pub move_bytes : Geometry → Move → List (List ℕ)
move_bytes g m = fed.u8 m.from ++ (fed.u8 m.to ++ fed.u64 (word_of g m.taken))
