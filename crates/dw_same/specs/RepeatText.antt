-- The texts of repeated problems, in words or as rows of JSON.
use Rattle.std.specs.Prelude.{ℕ, Bool, if◌then◌else◌, List, [], ◌∷◌, ◌++◌, codes, decimal}
use Rattle.dw_board.specs.FenText.{written}
use Rattle.dw_board.specs.Geometry.{Geometry}
use Rattle.dw_board.specs.Placement.{Placement}
use Rattle.dw_json.specs.Rows.{count, row}
use Rattle.dw_same.specs.declared.index.Repeat.{Repeat}
use Rattle.dw_same.specs.declared.index.Repeat.TheVariants.{Same, Turned}
use Rattle.json.specs.Json.{string}

-- the number of the problem that is repeated
abbrev pub repeated : Repeat → ℕ
repeated (Same number) = number
repeated (Turned number) = number

-- the words before that number
abbrev pub words : Repeat → List ℕ
words (Same number) = codes " same as "
words (Turned number) = codes " turned "

-- the name of the member with that number
abbrev pub name : Repeat → List ℕ
name (Same number) = codes "same_as"
name (Turned number) = codes "turned"

-- the line of a problem that repeats an earlier one
abbrev pub repeat_line : Geometry → (problem : ℕ) → Placement → Repeat → List ℕ
repeat_line g problem p repeat = codes "problem " ++ decimal problem ++ codes ": " ++ written g p ++ words repeat
    ++ decimal (repeated repeat) ++ codes "\n"

-- the row of a problem that repeats an earlier one
abbrev pub repeat_row : Geometry → (problem : ℕ) → Placement → Repeat → List ℕ
repeat_row g problem p repeat = row ((codes "problem", count problem) ∷ (codes "fen", string (written g p))
    ∷ (name repeat, count (repeated repeat)) ∷ [])

-- the text of a problem that repeats an earlier one
abbrev pub repeat_text : Geometry → (json : Bool) → (problem : ℕ) → Placement → Repeat → List ℕ
repeat_text g json problem p repeat =
    if json then repeat_row g problem p repeat else repeat_line g problem p repeat

-- the last text: how many of how many positions repeat an earlier problem
abbrev pub count_text : (json : Bool) → (repeats positions : ℕ) → List ℕ
count_text json repeats positions =
    if json then row ((codes "repeated", count repeats) ∷ (codes "of", count positions) ∷ [])
    else decimal repeats ++ codes " of " ++ decimal positions ++ codes " repeated\n"
