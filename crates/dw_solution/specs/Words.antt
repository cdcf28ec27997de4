-- The words of a solution's movetext.
use Rattle.std.specs.Prelude.{◌≡◌, ℕ, ◌+◌, ◌/◌, ◌%◌, ◌==◌, ◌||◌, if◌then◌else◌, Bool, true, false, List, [], ◌∷◌, ◌++◌}
use Rattle.std.specs.Prelude.{codes, decimal}
use Rattle.dw_board.specs.Geometry.{Geometry}
use Rattle.dw_board.specs.Placement.{Placement}
use Rattle.dw_moves.specs.Moves.{play}
use Rattle.dw_notation.specs.Text.{IsMoveText}
use Rattle.dw_solution.specs.Tree.{Tree, over, branch}
use Rattle.dw_solution.specs.declared.style.Mark.{Mark}
use Rattle.dw_solution.specs.declared.style.Mark.TheVariants.{Gap, Opening, Closing}

-- A part of the words: a mark, as the gap before a word; a text, as a number or a result; a move, with its text and the
-- position after it.
pub data Part : Type 0 where
  mark : Mark → Part
  plain_text : List ℕ → Part
  move_text : (text : List ℕ) → (after : Placement) → Part

-- how words are written: the text for each part
abbrev pub Style : Type 0
Style = Part → List ℕ

-- the dots after the number of a turn. Half turns are counted from 0, and White moves at the even ones.
abbrev pub dots : ℕ → List ℕ
dots half = if half % 2 == 0 then codes "." else codes "..."

-- the number of a turn with its dots
abbrev pub number_word : Style → ℕ → List ℕ
number_word shown half = shown (plain_text (decimal (half / 2 + 1))) ++ shown (plain_text (dots half))

-- the number before a move, if it has one: one of White's always, one of Black's if it is due
abbrev pub number_words : Style → ℕ → (due : Bool) → List (List ℕ)
number_words shown half due = if due || (half % 2 == 0) then number_word shown half ∷ [] else []

-- a move with its number before it
abbrev pub move_words : Style → ℕ → (due : Bool) → (move : List ℕ) → List (List ℕ)
move_words shown half due move = number_words shown half due ++ move ∷ []

-- words with a parenthesis that closes after the last one
abbrev pub closed : Style → List (List ℕ) → List (List ℕ)
closed shown [] = []
closed shown (w ∷ []) = (w ++ shown (mark Closing)) ∷ []
closed shown (w ∷ v ∷ words) = w ∷ closed shown (v ∷ words)

-- words with parentheses around them
abbrev pub in_parentheses : Style → List (List ℕ) → List (List ℕ)
in_parentheses shown [] = []
in_parentheses shown (w ∷ words) = closed shown ((shown (mark Opening) ++ w) ∷ words)

-- words in a row, each with a gap before it
abbrev pub spaced : Style → List (List ℕ) → List ℕ
spaced shown [] = []
spaced shown (w ∷ words) = shown (mark Gap) ++ (w ++ spaced shown words)

-- whether a tree has a move
abbrev pub has_move : Tree → Bool
has_move over = false
has_move (branch m behind others) = true

abbrev mutual
  -- The words of a continuation at a half turn: none; or the first move, then each of the others in its place as a
  -- variation, and then the continuation of the first. After a variation a number is due.
  pub AreWords : Style → Geometry → Placement → ℕ → (due : Bool) → Tree → List (List ℕ) → Type 0
  AreWords shown g p half due over words = words ≡ []
  AreWords shown g p half due (branch m behind others) words =
      (text : List ℕ) × (variations : List (List ℕ)) × (rest : List (List ℕ)) × IsMoveText g p m text
      × AreVariations shown g p half others variations
      × AreWords shown g (play g p m) (half + 1) (has_move others) behind rest
      × (words ≡ move_words shown half due (shown (move_text text (play g p m))) ++ (variations ++ rest))

  -- the words of moves as variations: each of them in parentheses, with its continuation
  pub AreVariations : Style → Geometry → Placement → ℕ → Tree → List (List ℕ) → Type 0
  AreVariations shown g p half over words = words ≡ []
  AreVariations shown g p half (branch m behind others) words =
      (text : List ℕ) × (rest : List (List ℕ)) × (more : List (List ℕ)) × IsMoveText g p m text
      × AreWords shown g (play g p m) (half + 1) false behind rest × AreVariations shown g p half others more
      × (words ≡ in_parentheses shown (move_words shown half true (shown (move_text text (play g p m))) ++ rest)
      ++ more)
