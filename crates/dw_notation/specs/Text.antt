-- The texts of moves and of lines.
use Rattle.std.specs.Prelude.{◌≡◌, ℕ, ◌+◌, ◌/◌, ◌%◌, ◌==◌, ◌&&◌, nat_lt, if◌then◌else◌, Bool, List, [], ◌∷◌, ◌++◌, map}
use Rattle.std.specs.Prelude.{count_by, codes, decimal}
use Rattle.std.specs.List.{join_with_byte, join_by}
use Rattle.std.specs.FinSet as set
use Rattle.dw_board.specs.Geometry.{Geometry}
use Rattle.dw_board.specs.Placement.{Placement}
use Rattle.dw_board.specs.FenTokens.{dash, blank}
use Rattle.dw_moves.specs.Moves.{Move, Legal, play}
use Rattle.dw_board.specs.Lists.{Member}
use Rattle.dw_moves.specs.Order.{Listed, AreListed}

-- the mark between the squares of a capture
abbrev pub cross : ℕ
cross = 120

-- the numbers of squares with a mark between them
abbrev pub squares_text : ℕ → List ℕ → List ℕ
squares_text mark squares = join_with_byte mark (map decimal squares)

-- from and to, with a mark between them
abbrev pub ends_text : ℕ → Move → List ℕ
ends_text mark m = squares_text mark (m.from ∷ m.to ∷ [])

-- whether a listed move begins and ends where m does
abbrev pub has_ends : Move → Listed → Bool
has_ends m l = (l.step.from == m.from) && (l.step.to == m.to)

-- whether more than one of these moves begins and ends where m does
abbrev pub shares_ends : List Listed → Move → Bool
shares_ends list m = nat_lt 1 (count_by (has_ends m) list)

-- a capture is written as 32x23; if another of these moves shares its ends, with all squares of its path
abbrev pub capture_text : List Listed → Listed → List ℕ
capture_text list l = if shares_ends list l.step then squares_text cross l.path else ends_text cross l.step

-- the text of one of these moves: as 32-28 if it takes nothing, and else as a capture
abbrev pub text_among : List Listed → Listed → List ℕ
text_among list l = if set.len l.step.taken == 0 then ends_text dash l.step else capture_text list l

-- the text of a legal move: as it is written among all the legal moves
pub record IsMoveText (g : Geometry) (p : Placement) (m : Move) (text : List ℕ) : Type 0 where
  pub list : List Listed
  pub all : AreListed g p list
  pub item : Listed
  pub here : Member item list
  pub same : item.step ≡ m
  pub is : text ≡ text_among list item

-- moves that can be played one after another
abbrev pub ArePlayable : Geometry → Placement → List Move → Type 0
ArePlayable g p [] = Unit {0}
ArePlayable g p (m ∷ moves) = Legal g p m × ArePlayable g (play g p m) moves

-- words at a ply, counted from 0; at an even one the attacker moves, and the number of the move and a dot come first
abbrev pub numbered : ℕ → List (List ℕ) → List (List ℕ)
numbered ply words = if ply % 2 == 0 then (decimal (ply / 2 + 1) ++ codes ".") ∷ words else words

-- the words of moves that are played one after another, from a ply on
abbrev pub AreWords : Geometry → Placement → ℕ → List Move → List (List ℕ) → Type 0
AreWords g p ply [] words = words ≡ []
AreWords g p ply (m ∷ moves) words = (text : List ℕ) × (rest : List (List ℕ)) × IsMoveText g p m text
    × AreWords g (play g p m) (ply + 1) moves rest × (words ≡ numbered ply (text ∷ rest))

-- the text of a line: its words with blanks between them, as in 1. 45-40 16-21 2. 27x16
abbrev pub IsLineText : Geometry → Placement → List Move → List ℕ → Type 0
IsLineText g p moves text = (words : List (List ℕ)) × AreWords g p 0 moves words × (text ≡ join_with_byte blank words)

-- the text of each move
abbrev pub AreMoveTexts : Geometry → Placement → List Move → List (List ℕ) → Type 0
AreMoveTexts g p [] texts = texts ≡ []
AreMoveTexts g p (m ∷ moves) texts = (text : List ℕ) × (rest : List (List ℕ)) × IsMoveText g p m text
    × AreMoveTexts g p moves rest × (texts ≡ text ∷ rest)

-- the texts of moves with a mark between them
abbrev pub AreJoined : Geometry → Placement → List ℕ → List Move → List ℕ → Type 0
AreJoined g p mark moves joined =
    (texts : List (List ℕ)) × AreMoveTexts g p moves texts × (joined ≡ join_by (λ text. text) mark texts)
