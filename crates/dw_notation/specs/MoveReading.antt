-- The text of a move: the squares that it names, the moves that fit, and the answer.
use Rattle.std.specs.Prelude.{◌≡◌, ◌==◌, ◌||◌, ℕ, ◌<◌, ◌≤◌, Bool, true, Result, Ok, Err, Some, List, [], ◌∷◌, ◌++◌}
use Rattle.std.specs.Prelude.{length}
use Rattle.std.specs.FinSet as set
use Rattle.dw_board.specs.Geometry.{Geometry}
use Rattle.dw_board.specs.Placement.{Placement}
use Rattle.dw_board.specs.FenTokens.{number_named}
use Rattle.dw_moves.specs.Moves.{Move, Legal}
use Rattle.dw_moves.specs.Order.{IsPathFor}
use Rattle.dw_notation.specs.declared.read_move.MoveFault.{MoveFault}
use Rattle.dw_notation.specs.declared.read_move.MoveFault.TheVariants.{Syntax, NoSuchMove, Ambiguous, Memory}

-- one or two digits, which give the number of a square
abbrev pub IsNumber : Geometry → List ℕ → ℕ → Type 0
IsNumber g text s = number_named g text ≡ Some s

-- x, in either case
abbrev pub is_cross : ℕ → Bool
is_cross byte = (byte == 120) || (byte == 88)

-- numbers joined by crosses
pub data AreCrossed : Geometry → List ℕ → List ℕ → Type 0 where
  single : {g : Geometry} {text : List ℕ} {s : ℕ} → IsNumber g text s → AreCrossed g text (s ∷ [])
  more : {g : Geometry} {s : ℕ} {squares : List ℕ} (front : List ℕ) (cross : ℕ) (rest : List ℕ) → IsNumber g front s
      → is_cross cross ≡ true → AreCrossed g rest squares → AreCrossed g (front ++ cross ∷ rest) (s ∷ squares)

-- the meaning of a text: a quiet move by its two squares, or a capture by its start and landing squares
pub data Named : Type 0 where
  QuietMove : ℕ → ℕ → Named
  Capture : List ℕ → Named

-- two numbers joined by a dash name a quiet move, and 2 to 21 joined by crosses a capture
pub data Names : Geometry → List ℕ → Named → Type 0 where
  by_dash : {g : Geometry} {from to : ℕ} (front back : List ℕ) → IsNumber g front from → IsNumber g back to
      → Names g (front ++ 45 ∷ back) (QuietMove from to)
  by_crosses : {g : Geometry} {text squares : List ℕ} → AreCrossed g text squares → 2 ≤ length squares
      → length squares ≤ 21 → Names g text (Capture squares)

-- a move begins and ends on these squares
abbrev pub Between : ℕ → ℕ → Move → Type 0
Between from to m = (m.from ≡ from) × (m.to ≡ to)

-- a legal move between two squares that takes nothing
abbrev pub IsQuietBetween : Geometry → Placement → ℕ → ℕ → Move → Type 0
IsQuietBetween g p from to m = Legal g p m × Between from to m × (m.taken ≡ set.empty)

-- a legal move between two squares that takes something
abbrev pub IsCaptureBetween : Geometry → Placement → ℕ → ℕ → Move → Type 0
IsCaptureBetween g p from to m = Legal g p m × Between from to m × (0 < set.len m.taken)

-- two squares mean any capture between them, more squares the capture that has this path
abbrev pub FitsSquares : Geometry → Placement → List ℕ → Move → Type 0
FitsSquares g p [] m = ⊥
FitsSquares g p (s ∷ []) m = ⊥
FitsSquares g p (from ∷ to ∷ []) m = IsCaptureBetween g p from to m
FitsSquares g p (s ∷ t ∷ u ∷ squares) m = IsPathFor g p m (s ∷ t ∷ u ∷ squares)

-- m is a legal move, and it is as it was named
abbrev pub Fits : Geometry → Placement → Named → Move → Type 0
Fits g p (QuietMove from to) m = IsQuietBetween g p from to m
Fits g p (Capture squares) m = FitsSquares g p squares m

-- m fits, and no other move does
pub record FitsAlone (g : Geometry) (p : Placement) (named : Named) (m : Move) : Type 0 where
  pub fits : Fits g p named m
  pub alone : (other : Move) → Fits g p named other → other ≡ m

-- two moves fit
pub record TwoFit (g : Geometry) (p : Placement) (named : Named) : Type 0 where
  pub first : Move
  pub second : Move
  pub fits : Fits g p named first
  pub fits_too : Fits g p named second
  pub differ : first ≡ second → ⊥

-- two squares joined by a cross: any of the legal moves may be the capture between them, and their list takes memory
abbrev pub NamesTwo : Named → Type 0
NamesTwo named = (from to : ℕ) × (named ≡ Capture (from ∷ to ∷ []))

-- The answer to a meaning: the one move that fits, that none does, or that several do. Memory can be refused only for
-- two squares joined by a cross.
abbrev pub IsAnswer : Geometry → Placement → Named → Result Move MoveFault → Type 0
IsAnswer g p named (Ok m) = FitsAlone g p named m
IsAnswer g p named (Err Syntax) = ⊥
IsAnswer g p named (Err NoSuchMove) = (m : Move) → Fits g p named m → ⊥
IsAnswer g p named (Err Ambiguous) = TwoFit g p named
IsAnswer g p named (Err Memory) = NamesTwo named

-- the text names something, and this is the answer to it
pub record IsAnswered (g : Geometry) (p : Placement) (text : List ℕ) (answer : Result Move MoveFault) : Type 0 where
  pub named : Named
  pub names : Names g text named
  pub answers : IsAnswer g p named answer

-- the answer to a text: `Syntax` if it has no meaning, or the answer to its meaning
abbrev pub IsRead : Geometry → Placement → List ℕ → Result Move MoveFault → Type 0
IsRead g p text (Ok m) = IsAnswered g p text (Ok m)
IsRead g p text (Err Syntax) = (named : Named) → Names g text named → ⊥
IsRead g p text (Err NoSuchMove) = IsAnswered g p text (Err NoSuchMove)
IsRead g p text (Err Ambiguous) = IsAnswered g p text (Err Ambiguous)
IsRead g p text (Err Memory) = IsAnswered g p text (Err Memory)
