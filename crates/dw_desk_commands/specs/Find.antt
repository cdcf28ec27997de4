-- The output of `find` for a position.
use Rattle.std.specs.Prelude.{◌≡◌, ℕ, Bool, true, false, Ok, Err, Option, Some, None, List, ◌++◌, MatchBool}
use Rattle.std.specs.Prelude.{IsSomeAnd}
use Rattle.dw_arguments.specs.declared.desk_options.TheConstants.{USUAL_LINES}
use Rattle.dw_arguments.specs.declared.find.FindArgs.{FindArgs}
use Rattle.dw_board.specs.Geometry.{Geometry}
use Rattle.dw_board.specs.Placement.{Placement}
use Rattle.dw_desk_commands.specs.FindJson.{IsFoundRow}
use Rattle.dw_desk_commands.specs.FindLater.{HasLater, lines_of, won_in}
use Rattle.dw_report.specs.JsonRows.{refused_row}
use Rattle.dw_desk_commands.specs.ProblemText.{IsProblemText}
use Rattle.dw_desk_commands.specs.Solution.{AreFirstLines}
use Rattle.dw_notation.specs.Problems.{Numbered}
use Rattle.dw_notation.specs.TextLines.{Found}
use Rattle.dw_solution.specs.FirstLines.{LinesFrom}
use Rattle.dw_study.specs.Finding.{Finding, IsFinding, judged, undecided}
use Rattle.dw_study.specs.FoundText.{IsFoundText}

-- whether a finding leaves it open whether there is a win
abbrev pub is_open : Finding → Bool
is_open (judged k verdict tries) = false
is_open (undecided k) = true

-- a finding may leave that open only if there is a bound, and exactly that many positions were expanded
abbrev pub MayStayOpen : (each : Option ℕ) → (expanded : ℕ) → Finding → Type 0
MayStayOpen each expanded finding = is_open finding ≡ true → each ≡ Some expanded

-- the finding for a position after a number of expansions: at exactly the given number of moves, or at the least up to
-- it
abbrev pub IsFound : Geometry → FindArgs → (expanded : ℕ) → Placement → Finding → Type 0
IsFound g query expanded p finding =
    IsFinding g p query.is_least query.moves.value finding × MayStayOpen query.each expanded finding

-- the text of a finding, and the lines of later wins; the problem counts as refused if it stays undecided
abbrev pub SaysFound : Geometry → FindArgs → (expanded : ℕ) → Placement → (refused : Bool) → List ℕ → Type 0
SaysFound g query expanded p refused text = (finding : Finding) × (found : List ℕ)
    × (later : Option (List (List ℕ × ℕ))) × IsFound g query expanded p finding × (refused ≡ is_open finding)
    × IsFoundText g p finding found × HasLater g p (won_in finding) query.later later × (text ≡ found ++ lines_of later)

-- the first lines of the solution for a finding: those within the number of moves at which the position is judged, or
-- none if it stays undecided
abbrev pub AreLinesFor : Geometry → Placement → Finding → Option LinesFrom → Type 0
AreLinesFor g p (judged k verdict tries) solution = IsSomeAnd solution (AreFirstLines g p k USUAL_LINES)
AreLinesFor g p (undecided k) solution = solution ≡ None

-- the first lines of the solution that a row has, if they are asked for
abbrev pub HasSolution : Geometry → FindArgs → Placement → Finding → Option LinesFrom → Type 0
HasSolution g query p finding solution =
    MatchBool query.solution (AreLinesFor g p finding solution) (solution ≡ None)

-- the row of JSON for a problem; it counts as refused if it is refused, or if it stays undecided
abbrev pub IsJsonOf : Geometry → FindArgs → (expanded number : ℕ) → Found → (refused : Bool) → List ℕ → Type 0
IsJsonOf g query expanded number (Ok p) refused text = (finding : Finding) × (solution : Option LinesFrom)
    × (later : Option (List (List ℕ × ℕ))) × IsFound g query expanded p finding × (refused ≡ is_open finding)
    × HasSolution g query p finding solution × HasLater g p (won_in finding) query.later later
    × IsFoundRow g number p finding solution later text
IsJsonOf g query expanded number (Err fault) refused text = (refused ≡ true) × (text ≡ refused_row number fault)

-- the output for a problem after a number of expansions for it: a text, or a row of JSON
abbrev pub IsFindOf : Geometry → FindArgs → (expanded : ℕ) → Numbered → (refused : Bool) → List ℕ → Type 0
IsFindOf g query expanded problem refused text =
    MatchBool query.json (IsJsonOf g query expanded problem.number problem.found refused text)
    (IsProblemText g (SaysFound g query expanded) problem refused text)
