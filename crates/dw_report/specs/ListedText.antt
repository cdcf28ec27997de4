-- The text of the lines of a position.
use Rattle.std.specs.Prelude.{◌≡◌, ℕ, ◌≤◌, ◌⊎◌, Option, Some, None, List, [], ◌∷◌, ◌++◌, length, codes, decimal, ◌||◌}
use Rattle.std.specs.Prelude.{◌==◌, if◌then◌else◌}
use Rattle.dw_board.specs.Geometry.{Geometry}
use Rattle.dw_board.specs.Placement.{Placement}
use Rattle.dw_moves.specs.Moves.{Move}
use Rattle.dw_notation.specs.Text.{IsLineText}
use Rattle.dw_solve.specs.Lines.{Lines}
use Rattle.dw_list.specs.Places.{After, IsPlace}
use Rattle.dw_list.specs.Tokens.{token_of}

-- the text of each line of play, on a line of its own
abbrev pub AreLineTexts : Geometry → Placement → List (List Move) → List ℕ → Type 0
AreLineTexts g p [] text = text ≡ []
AreLineTexts g p (l ∷ lines) text = (line : List ℕ) × (rest : List ℕ) × IsLineText g p l line
    × AreLineTexts g p lines rest
    × (text ≡ line ++ codes "\n" ++ rest)

-- the text has all of these lines, at most as many as may be listed, and then their number
pub record IsComplete (g : Geometry) (p : Placement) (most : ℕ) (lines : List (List Move))
    (text : List ℕ) : Type 0 where
  pub few : length lines ≤ most
  pub texts : List ℕ
  pub are : AreLineTexts g p lines texts
  pub is : text ≡ texts ++ codes "complete " ++ decimal (length lines) ++ codes "\n"

-- the end of a cut list: `more after` and the token of its last line of play, or `more` on boards without tokens
unfoldable pub more_after : Geometry → List Move → List ℕ
more_after g last =
    if (g.rows == 10) || (g.rows == 8) then codes "more after " ++ token_of g last ++ codes "\n" else codes "more\n"

-- the text has the first ones of these lines, as many as may be listed, and then says that more are left
pub record IsCut (g : Geometry) (p : Placement) (most : ℕ) (lines : List (List Move)) (text : List ℕ) : Type 0 where
  pub earlier : List (List Move)
  pub last : List Move
  pub left : List (List Move)
  pub split : lines ≡ (earlier ++ last ∷ []) ++ left
  pub many : length (earlier ++ last ∷ []) ≡ most
  pub more : 1 ≤ length left
  pub texts : List ℕ
  pub are : AreLineTexts g p (earlier ++ last ∷ []) texts
  pub is : text ≡ texts ++ more_after g last

-- all of these lines, or the first ones, as many as may be listed
abbrev pub IsListing : Geometry → Placement → ℕ → List (List Move) → List ℕ → Type 0
IsListing g p most lines text = IsComplete g p most lines text ⊎ IsCut g p most lines text

-- the lines of a position: all, or those after a given one; if that is no line, its refusal with the place
abbrev pub IsListedText : Geometry → Placement → ℕ → ℕ → Option (List Move) → List ℕ → Type 0
IsListedText g p n most None text = (lines : List (List Move)) × Lines g p n lines × IsListing g p most lines text
IsListedText g p n most (Some l) text =
    ((lines : List (List Move)) × (rest : List (List Move)) × Lines g p n lines × After lines l rest
    × IsListing g p most rest text)
    ⊎ ((k : ℕ) × IsPlace g p n l k × (text ≡ codes "refused token: 1 not a line at " ++ decimal k ++ codes "\n"))
