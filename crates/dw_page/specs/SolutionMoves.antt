-- The moves of a solution, as they stand in a page: each with the position after it.
use Rattle.std.specs.Prelude.{◌≡◌, ◌++◌, ℕ, List, codes}
use Rattle.dw_board.specs.Geometry.{Geometry}
use Rattle.dw_board.specs.Placement.{Placement}
use Rattle.dw_board.specs.FenText.{written}
use Rattle.dw_page.specs.Escaping.{stands_for}
use Rattle.dw_solution.specs.FirstLines.{LinesFrom}
use Rattle.dw_solution.specs.Movetext.{AreWordsOfFirst}
use Rattle.dw_solution.specs.Words.{Style, mark, move_text, plain_text, spaced}
use Rattle.dw_solution.specs.declared.style.Mark.TheVariants.{Gap, Opening, Closing, MoreLines}

-- a move, as an element that has the FEN text of the position after it
abbrev pub move_shown : Geometry → (after : Placement) → (word : List ℕ) → List ℕ
move_shown g after word =
    codes "<span class=\"move\" data-fen=\"" ++ (written g after ++ (codes "\">" ++ (stands_for word
    ++ codes "</span>")))

-- a part of a movetext as it stands in a page, where `more` says that there are more lines
abbrev pub in_page : Geometry → (more : List ℕ) → Style
in_page g more (mark Gap) = codes " "
in_page g more (mark Opening) = codes "<span class=\"variation\">("
in_page g more (mark Closing) = codes ")</span>"
in_page g more (mark MoreLines) = stands_for more
in_page g more (plain_text text) = stands_for text
in_page g more (move_text text after) = move_shown g after text

-- the text that shows the first lines, given their number: the words of their movetext, each with a blank before it
abbrev pub AreMovesShown : Geometry → (more : List ℕ) → LinesFrom → (many : ℕ) → List ℕ → Type 0
AreMovesShown g more first many text =
    (words : List (List ℕ)) × AreWordsOfFirst (in_page g more) g first many words
    × (text ≡ spaced (in_page g more) words)
