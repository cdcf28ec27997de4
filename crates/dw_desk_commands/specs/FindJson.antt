-- The row of JSON of `find` for a problem.
use Rattle.std.specs.Prelude.{◌≡◌, ℕ, Option, Some, None, List, [], ◌∷◌, ◌++◌, codes}
use Rattle.json.specs.Json.{string}
use Rattle.dw_arguments.specs.declared.desk_options.TheConstants.{USUAL_LINES}
use Rattle.dw_board.specs.FenText.{written}
use Rattle.dw_board.specs.Geometry.{Geometry}
use Rattle.dw_board.specs.Placement.{Placement}
use Rattle.dw_desk_commands.specs.FindLater.{member_of}
use Rattle.dw_json.specs.Rows.{Member, count, pairs, row, texts}
use Rattle.dw_report.specs.MoveTexts.{AreChoices, AreKeyTexts, AreTryTexts}
use Rattle.dw_rows.specs.SolutionRow.{AreLineMembers}
use Rattle.dw_solution.specs.FirstLines.{LinesFrom}
use Rattle.dw_verdict.specs.Verdict.{Verdict, unsolvable, cooked, dual, sound}
use Rattle.dw_study.specs.Finding.{Finding, judged, undecided}

-- the word of a verdict
abbrev pub verdict_word : Verdict → List ℕ
verdict_word unsolvable = codes "unsolvable"
verdict_word (cooked shortest keys) = codes "cooked"
verdict_word (dual beginning choices) = codes "dual"
verdict_word (sound key) = codes "sound"

-- the members before the keys: the least number of moves of a cooked problem
abbrev pub before_keys : Verdict → List Member
before_keys unsolvable = []
before_keys (cooked shortest keys) = (codes "shortest", count shortest) ∷ []
before_keys (dual beginning choices) = []
before_keys (sound key) = []

-- the members after the keys: the line up to a dual and its choices
abbrev pub AreAfterKeys : Geometry → Placement → Verdict → List Member → Type 0
AreAfterKeys g p unsolvable members = members ≡ []
AreAfterKeys g p (cooked shortest keys) members = members ≡ []
AreAfterKeys g p (dual beginning choices) members = (line : List ℕ) × (moves : List (List ℕ))
    × AreChoices g p beginning choices line moves
    × (members ≡ (codes "at", string line) ∷ (codes "choices", texts moves) ∷ [])
AreAfterKeys g p (sound key) members = members ≡ []

-- the members for the finding of a position
abbrev pub AreFound : Geometry → Placement → Finding → List Member → Type 0
AreFound g p (judged k verdict tries) members =
    (keys : List (List ℕ)) × (after : List Member) × (tried : List (List ℕ × List ℕ))
    × AreKeyTexts g p k keys × AreAfterKeys g p verdict after × AreTryTexts g p tries tried
    × (members ≡ (codes "n", count k) ∷ (codes "verdict", string (verdict_word verdict)) ∷ before_keys verdict
    ++ (codes "keys", texts keys) ∷ after ++ (codes "tries", pairs tried) ∷ [])
AreFound g p (undecided k) members =
    members ≡ (codes "verdict", string (codes "undecided")) ∷ (codes "no_win_in", count k) ∷ []

-- the members for the first lines of a solution: those that `solution` writes, or none if there are no lines to write
abbrev pub AreSolutionMembers : Geometry → Option LinesFrom → List Member → Type 0
AreSolutionMembers g None members = members ≡ []
AreSolutionMembers g (Some first) members = AreLineMembers g first USUAL_LINES members

-- the row of a position and its finding; after that the first lines of its solution and later wins, if they are there
abbrev pub IsFoundRow : Geometry → (problem : ℕ) → Placement → Finding → Option LinesFrom
    → Option (List (List ℕ × ℕ)) → List ℕ → Type 0
IsFoundRow g problem p finding solution later text = (members : List Member) × (more : List Member)
    × AreFound g p finding members × AreSolutionMembers g solution more
    × (text ≡ row ((codes "problem", count problem) ∷ (codes "fen", string (written g p)) ∷ members ++ more
    ++ member_of later))
