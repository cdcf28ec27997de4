-- The report: for each chosen problem, in order, its text.
use Rattle.std.specs.Prelude.{◌≡◌, ℕ, Option, Ok, Err, List, [], ◌∷◌, ◌++◌, length, filter, codes, decimal, true}
use Rattle.std.specs.Prelude.{if◌then◌else◌}
use Rattle.std.specs.List.{flat_map}
use Rattle.dw_board.specs.Geometry.{Geometry}
use Rattle.dw_board.specs.Placement.{Placement}
use Rattle.dw_board.specs.FenText.{written}
use Rattle.dw_board.specs.Diagram.{diagram_text}
use Rattle.dw_moves.specs.Moves.{IsBest, play}
use Rattle.dw_moves.specs.Order.{Listed, AreListed}
use Rattle.dw_notation.specs.Text.{text_among}
use Rattle.dw_notation.specs.TextLines.{Found}
use Rattle.dw_notation.specs.Problems.{Numbered, AreProblems}
use Rattle.dw_report.specs.JsonRows.{IsMovesRow, refused_row, shown_row}
use Rattle.dw_report.specs.Refusals.{refusal_text}
use Rattle.dw_report.specs.Request.{number_is_chosen, writes_rows, Request}
use Rattle.dw_report.specs.declared.settings.Command.{Command}
use Rattle.dw_report.specs.declared.settings.Command.TheVariants.{Show, ShowRow, Moves, MovesRow, Judge, List as Lists}
use Rattle.dw_report.specs.JudgedText.{IsJudgedText}
use Rattle.dw_report.specs.ListedText.{IsListedText}

-- the written FEN, or the refusal
abbrev pub found_text : Geometry → Found → List ℕ
found_text g (Ok position) = written g position
found_text g (Err fault) = codes "refused: " ++ refusal_text fault

-- `problem`, the number, and the written FEN or the refusal
abbrev pub first_line : Geometry → Numbered → List ℕ
first_line g problem = codes "problem " ++ decimal problem.number ++ codes ": " ++ found_text g problem.found
    ++ codes "\n"

-- the line of a legal move: its text, and the position after it
abbrev pub move_line : Geometry → Placement → List Listed → Listed → List ℕ
move_line g p list l = text_among list l ++ codes " " ++ written g (play g p l.step) ++ codes "\n"

-- the lines of all legal moves in order, then their number, and the number of pieces that each of them takes
pub record IsMovesText (g : Geometry) (p : Placement) (text : List ℕ) : Type 0 where
  pub list : List Listed
  pub all : AreListed g p list
  pub most : ℕ
  pub best : IsBest g p most
  pub is : text ≡ flat_map (move_line g p list) list
      ++ (codes "moves " ++ decimal (length list) ++ codes " taking " ++ decimal most ++ codes "\n")

-- the line before the text of the command: the first line, and none before a row
abbrev pub heading : Geometry → Command → Numbered → List ℕ
heading g command problem = if writes_rows command then [] else first_line g problem

-- the text of the command on the position of the problem of this number
abbrev pub IsSaid : Geometry → Command → Request → (number : ℕ) → Placement → List ℕ → Type 0
IsSaid g Show request number p text = text ≡ diagram_text g p
IsSaid g ShowRow request number p text = text ≡ shown_row g number p
IsSaid g Moves request number p text = IsMovesText g p text
IsSaid g MovesRow request number p text = IsMovesRow g number p text
IsSaid g Judge request number p text = IsJudgedText g p request.moves text
IsSaid g Lists request number p text = IsListedText g p request.moves request.lines request.after text

-- the text after the heading: that of the command; of a refusal its row, or nothing, since its first line says why
abbrev pub IsFurther : Geometry → Request → (number : ℕ) → Found → List ℕ → Type 0
IsFurther g request number (Ok p) text = IsSaid g request.command request number p text
IsFurther g request number (Err fault) text =
    text ≡ (if writes_rows request.command then refused_row number fault else [])

-- the text of a problem: its first line and the rest, or its row
pub record IsProblemText (g : Geometry) (request : Request) (problem : Numbered) (text : List ℕ) : Type 0 where
  pub further : List ℕ
  pub follows : IsFurther g request problem.number problem.found further
  pub is : text ≡ heading g request.command problem ++ further

-- the texts of problems, one after another
abbrev pub AreTexts : Geometry → Request → List Numbered → List ℕ → Type 0
AreTexts g request [] text = text ≡ []
AreTexts g request (problem ∷ problems) text =
    (one : List ℕ) × (rest : List ℕ) × IsProblemText g request problem one × AreTexts g request problems rest
    × (text ≡ one ++ rest)

-- the problems that are reported
abbrev pub chosen : Option ℕ → List Numbered → List Numbered
chosen only problems = filter (λ problem. number_is_chosen only problem.number) problems

-- the texts of the chosen problems among these
abbrev pub IsReportOn : Geometry → Request → List Numbered → List ℕ → Type 0
IsReportOn g request problems text = AreTexts g request (chosen request.only problems) text

-- the report on a byte text
abbrev pub IsReport : Geometry → Request → List ℕ → List ℕ → Type 0
IsReport g request bytes text =
    (problems : List Numbered) × AreProblems g request.form true bytes problems × IsReportOn g request problems text
