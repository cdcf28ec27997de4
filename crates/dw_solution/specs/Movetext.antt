-- The movetext of a solution.
use Rattle.std.specs.Prelude.{◌≡◌, ℕ, ◌+◌, ◌<◌, ◌≤◌, if◌then◌else◌, Bool, true, false, List, [], ◌∷◌, ◌++◌}
use Rattle.std.specs.Prelude.{length, take, codes, decimal, nat_le}
use Rattle.std.proofs.Common.{suc}
use Rattle.dw_board.specs.Geometry.{Geometry}
use Rattle.dw_board.specs.declared.piece.Side.{Side}
use Rattle.dw_board.specs.declared.piece.Side.TheVariants.{White, Black}
use Rattle.dw_moves.specs.Moves.{Move}
use Rattle.dw_solution.specs.FirstLines.{LinesFrom, is_cut}
use Rattle.dw_solution.specs.Tree.{Tree, IsTreeOf}
use Rattle.dw_solution.specs.Words.{AreWords, Style, mark, move_text, plain_text}
use Rattle.dw_solution.specs.declared.heading.Heading.{Heading}
use Rattle.dw_solution.specs.declared.heading.VerdictKind.{VerdictKind}
use Rattle.dw_solution.specs.declared.heading.VerdictKind.TheVariants.{Unsolvable, Cooked, Dual, Sound}
use Rattle.dw_solution.specs.declared.style.Mark.TheVariants.{Gap, Opening, Closing, MoreLines}
use Rattle.dw_solution.specs.declared.movetext.TheConstants.{MAX_WRITTEN, MAX_COLUMN}

-- words after the first bytes of a line, given how many those are: with a blank before each, or with a line feed if the
-- word would end after the 79th byte of the line
abbrev pub filled : ℕ → List (List ℕ) → List ℕ
filled column [] = []
filled column (w ∷ words) =
    if nat_le (column + 1 + length w) MAX_COLUMN then 32 ∷ (w ++ filled (column + 1 + length w) words)
    else 10 ∷ (w ++ filled (length w) words)

-- words in lines
abbrev pub in_lines : List (List ℕ) → List ℕ
in_lines [] = []
in_lines (w ∷ words) = w ++ filled (length w) words

-- a verdict's first word
abbrev pub verdict_word : VerdictKind → List ℕ
verdict_word Unsolvable = codes "unsolvable"
verdict_word Cooked = codes "cooked"
verdict_word Dual = codes "dual"
verdict_word Sound = codes "sound"

-- the comment in front: the verdict's first two words, and the number of moves
abbrev pub verdict_comment : Heading → List ℕ
verdict_comment heading = codes "{" ++ (verdict_word heading.kind ++ (codes " in " ++ (decimal heading.moves
    ++ codes "}")))

-- the half turn of the first move
abbrev pub first_half : Side → ℕ
first_half White = 0
first_half Black = 1

-- the win of a side
abbrev pub win_of : Side → List ℕ
win_of White = codes "2-0"
win_of Black = codes "0-2"

-- the result: a win of the side to move if it has lines, else a star
abbrev pub result_of : Side → List (List Move) → List ℕ
result_of side [] = codes "*"
result_of side (l ∷ lines) = win_of side

-- the words after the play: the comment that there are more lines, if there are, and the result
abbrev pub last_words : Style → (more : Bool) → (result : List ℕ) → List (List ℕ)
last_words shown true result = shown (mark MoreLines) ∷ shown (plain_text result) ∷ []
last_words shown false result = shown (plain_text result) ∷ []

-- the words of the first lines, given their number: those of their tree, and the last words
abbrev pub AreWordsOfFirst : Style → Geometry → LinesFrom → (many : ℕ) → List (List ℕ) → Type 0
AreWordsOfFirst shown g first many words =
    (tree : Tree) × (played : List (List ℕ)) × IsTreeOf (take many first.lines) tree
    × AreWords shown g first.start (first_half first.start.turn) true tree played
    × (words ≡ played ++ last_words shown (is_cut first many) (result_of first.start.turn first.lines))

-- A part as it stands in a movetext. A gap is a line feed, until `in_lines` puts blanks in place of some.
abbrev pub in_movetext : Style
in_movetext (mark Gap) = codes "\n"
in_movetext (mark Opening) = codes "("
in_movetext (mark Closing) = codes ")"
in_movetext (mark MoreLines) = codes "{more}"
in_movetext (plain_text text) = text
in_movetext (move_text text after) = text

-- the text of the first lines, given their number: the comment in front, and their words
abbrev pub IsTextOfFirst : Geometry → Heading → LinesFrom → (many : ℕ) → List ℕ → Type 0
IsTextOfFirst g heading first many text =
    (words : List (List ℕ)) × AreWordsOfFirst in_movetext g first many words
    × (text ≡ in_lines (verdict_comment heading ∷ words))

-- The movetext of first lines, and how many of them it has: all, or as many as fit in 1,000,000 bytes. With one line
-- more the text would be longer.
pub record IsMovetext (g : Geometry) (heading : Heading) (first : LinesFrom) (many : ℕ) (text : List ℕ) : Type 0 where
  pub within : many ≤ length first.lines
  pub is : IsTextOfFirst g heading first many text
  pub short : length text ≤ MAX_WRITTEN
  pub greatest : many < length first.lines → (longer : List ℕ) × IsTextOfFirst g heading first (suc many) longer
      × (MAX_WRITTEN < length longer)
