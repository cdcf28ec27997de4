-- Words with line feeds.
use Rattle.std.specs.Prelude.{◌≡◌, ℕ, ◌==◌, not, true, List, [], ◌∷◌, ◌++◌, drop, length, ◌+◌, ◌-◌, ◌≤◌}
use Rattle.std.specs.List.{list_all}
use Rattle.dw_board.specs.Geometry.{Geometry}
use Rattle.dw_board.specs.Placement.{Placement}
use Rattle.dw_moves.specs.Moves.{Move, play}
use Rattle.dw_notation.specs.Text.{IsMoveText}
use Rattle.dw_solution.specs.Movetext.{filled, in_movetext}
use Rattle.dw_solution.specs.declared.style.Mark.TheVariants.{Gap}
use Rattle.dw_solution.specs.Words.{Style, mark, move_text, spaced}

-- each word with a line feed before it
abbrev pub feeding : List (List ℕ) → List ℕ
feeding words = spaced in_movetext words

-- no line feed stands in a word
abbrev pub IsUnbroken : List ℕ → Type 0
IsUnbroken word = list_all (λ byte. not (byte == 10)) word ≡ true

abbrev pub AreUnbroken : List (List ℕ) → Type 0
AreUnbroken [] = Unit {0}
AreUnbroken (w ∷ words) = IsUnbroken w × AreUnbroken words

-- words that are such were put after a text, each with a gap before it
pub record IsAdded (shown : Style) (Are : List (List ℕ) → Type 0) (old new : List ℕ) : Type 0 where
  pub words : List (List ℕ)
  pub are : Are words
  pub added : new ≡ old ++ spaced shown words

-- a gap and a move were put after a text
pub record IsMoveAdded (shown : Style) (g : Geometry) (p : Placement) (m : Move) (old new : List ℕ) : Type 0 where
  pub text : List ℕ
  pub is : IsMoveText g p m text
  pub added : new ≡ old ++ (shown (mark Gap) ++ shown (move_text text (play g p m)))

-- a text in which the blanks up to a line feed are put, where the last line begins at some place: it goes on as words
-- after the bytes of that line do
pub record IsFilledTo (text whole : List ℕ) (line feed : ℕ) : Type 0 where
  pub done : List ℕ
  pub words : List (List ℕ)
  pub unbroken : AreUnbroken words
  pub now : text ≡ done ++ feeding words
  pub at : feed ≡ length done
  pub begun : line ≤ feed
  pub ahead : whole ≡ done ++ filled (feed - line) words

-- bytes from a place on begin with a word without line feed, and the first word from there on ends at the same place
pub record IsWordFrom (text : List ℕ) (from place : ℕ) (w : List ℕ) (words : List (List ℕ)) : Type 0 where
  pub rest : List ℕ
  pub unbroken : IsUnbroken rest
  pub ahead : drop place text ≡ rest ++ feeding words
  pub same : place + length rest ≡ from + length w
