-- The row of JSON of `check` for a problem.
use Rattle.std.specs.Prelude.{◌≡◌, ℕ, Option, Some, None, List, [], ◌∷◌, ◌++◌, codes, decimal}
use Rattle.json.specs.Json.{boolean, string}
use Rattle.dw_board.specs.FenText.{written}
use Rattle.dw_board.specs.Geometry.{Geometry}
use Rattle.dw_board.specs.Placement.{Placement}
use Rattle.dw_games.specs.Faults.{name_of, number_of}
use Rattle.dw_games.specs.declared.fault.MovetextFaultKind.{MovetextFaultKind}
use Rattle.dw_json.specs.Rows.{AreObjects, Member, count, objects, row, texts}
use Rattle.dw_rows.specs.declared.checked.CheckNumbers.{CheckNumbers}
use Rattle.dw_study.specs.RemarkFields.{AreRemarkFields, Words}
use Rattle.dw_study.specs.Remarks.{Remark, fails, also, leaves_open, ends}

-- the word for a kind of remark
abbrev pub kind_word : Remark → List ℕ
kind_word (fails b m r) = codes "fails"
kind_word (also b keys) = codes "also"
kind_word (leaves_open b replies) = codes "open"
kind_word (ends b wins_in) = codes "ends"

-- the member for the reply that refutes, if there is one
abbrev pub refutation_members : Option (List ℕ) → List Member
refutation_members None = []
refutation_members (Some reply) = (codes "refutation", string reply) ∷ []

-- the member for the number of moves within which the attacker wins after an end, if there is one
abbrev pub wins_in_members : Option ℕ → List Member
wins_in_members None = []
wins_in_members (Some k) = (codes "wins_in", count k) ∷ []

-- the members of a remark of some kind: the beginning, the moves, the reply that refutes, and how much is missing
abbrev pub word_members : (kind : List ℕ) → Words → List Member
word_members kind words = (codes "kind", string kind) ∷ (codes "line", string words.line)
    ∷ (codes "moves", texts words.moves) ∷ (refutation_members words.refutation ++ wins_in_members words.wins_in)

-- the members of a remark
abbrev pub IsRemarkObject : Geometry → Placement → Remark → List Member → Type 0
IsRemarkObject g p r members =
    (words : Words) × AreRemarkFields g p r words × (members ≡ word_members (kind_word r) words)

-- the row of a position and of the remarks on its solution within n moves
abbrev pub IsCheckedRow : Geometry → (problem : ℕ) → Placement → (n : ℕ) → CheckNumbers → List Remark → List ℕ → Type 0
IsCheckedRow g problem p n numbers remarks text =
    (each : List (List Member)) × AreObjects (IsRemarkObject g p) remarks each
    × (text ≡ row ((codes "problem", count problem) ∷ (codes "fen", string (written g p)) ∷ (codes "n", count n)
    ∷ (codes "win", boolean numbers.wins) ∷ (codes "holds", boolean numbers.holds)
    ∷ (codes "fail", count numbers.fail) ∷ (codes "end", count numbers.end) ∷ (codes "open", count numbers.open)
    ∷ (codes "also", count numbers.also) ∷ (codes "remarks", objects each) ∷ []))

-- the row of a position whose solution is refused
abbrev pub refused_solution_row : Geometry → (problem : ℕ) → Placement → MovetextFaultKind → (place : ℕ) → List ℕ
refused_solution_row g problem p what place =
    row ((codes "problem", count problem) ∷ (codes "fen", string (written g p))
    ∷ (
      codes "solution_refused",
      string (decimal (number_of what) ++ codes " " ++ name_of what ++ codes " at "
          ++ decimal place),
    ) ∷ [])
