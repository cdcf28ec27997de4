-- The texts of problems.
use Rattle.std.specs.Prelude.{◌≡◌, ◌⊎◌, ◌+◌, ◌≤◌, ℕ, if◌then◌else◌, Bool, true, Ok, Err, List, [], ◌∷◌, ◌++◌, length}
use Rattle.std.specs.Prelude.{map}
use Rattle.std.specs.List.{count_by, sum_by}
use Rattle.dw_board.specs.Geometry.{Geometry}
use Rattle.dw_board.specs.Placement.{Placement}
use Rattle.dw_desk_commands.specs.declared.desk.Counts.{Counts}
use Rattle.dw_commands.specs.declared.ending.Ending.{Ending}
use Rattle.dw_commands.specs.declared.ending.Ending.TheVariants.{Refused, NoProblem}
use Rattle.dw_desk_commands.specs.Ending.{ending_after}
use Rattle.dw_report.specs.JsonRows.{refused_row}
use Rattle.dw_arguments.specs.declared.portion.Portion.{Portion}
use Rattle.dw_games.specs.Games.{NumberedGame, problem_of}
use Rattle.dw_notation.specs.Problems.{Numbered}
use Rattle.dw_notation.specs.TextLines.{Found}
use Rattle.dw_notation.specs.declared.problems.ProblemFault.{ProblemFault}
use Rattle.dw_notation.specs.declared.problems.TheConstants.{MAX_PROBLEMS}
use Rattle.dw_report.specs.Report.{first_line}

-- the output for a refused problem
abbrev pub refused_text : Geometry → (json : Bool) → Numbered → ProblemFault → List ℕ
refused_text g json problem fault = if json then refused_row problem.number fault else first_line g problem

-- the text after the first line, and whether it makes the problem count as refused; after a refusal nothing
abbrev pub IsFurther : (Says : Placement → (refused : Bool) → List ℕ → Type 0) → Found → (refused : Bool) → List ℕ
    → Type 0
IsFurther Says (Ok p) refused text = Says p refused text
IsFurther Says (Err fault) refused text = (refused ≡ true) × (text ≡ [])

-- The text of a problem: its first line, and the rest.
pub record IsProblemText (g : Geometry) (Says : Placement → (refused : Bool) → List ℕ → Type 0) (problem : Numbered)
    (refused : Bool) (text : List ℕ) : Type 0 where
  pub further : List ℕ
  pub follows : IsFurther Says problem.found refused further
  pub is : text ≡ first_line g problem ++ further

-- the texts of items in turn, one after another
pub data AreTexts {X : Type 0} (One : X → List ℕ → Type 0) : List X → List ℕ → Type 0 where
  nothing : AreTexts One [] []
  one_more : {xs : List X} {text : List ℕ} (x : X) (one : List ℕ) → AreTexts One xs text → One x one
      → AreTexts One (xs ++ x ∷ []) (text ++ one)

-- a game that is reported, how many positions were expanded for it, and whether it counts as refused
pub record Reported : Type 0 where
  pub game : NumberedGame
  pub expanded : ℕ
  pub is_refused : Bool

-- The report on some games, for which a number of positions were expanded in all: the output for each in turn; the
-- number of games, and how many count as refused. The counts are stated for at most 1,000,001 games, and a text has no
-- more.
pub record IsReport (One : (expanded : ℕ) → NumberedGame → (refused : Bool) → List ℕ → Type 0) (expanded : ℕ)
    (games : List NumberedGame) (counts : Counts) (text : List ℕ) : Type 0 where
  pub reported : List Reported
  pub are : games ≡ map (λ r. r.game) reported
  pub spent : expanded ≡ sum_by (λ r. r.expanded) reported
  pub texts : AreTexts (λ r. One r.expanded r.game r.is_refused) reported text
  pub shown : length reported ≤ MAX_PROBLEMS + 1 → counts.shown ≡ length reported
  pub refused : length reported ≤ MAX_PROBLEMS + 1 → counts.refused ≡ count_by (λ r. r.is_refused) reported

-- The report on all games that are chosen. How the program ends after it follows from how many they are, and how many
-- count as refused.
abbrev pub IsReportOnAll : {T : Type 0} → (One : (expanded : ℕ) → NumberedGame → (refused : Bool) → List ℕ → Type 0)
    → (expanded : ℕ) → Portion → List NumberedGame → Ending T → List ℕ → Type 0
IsReportOnAll One expanded portion games ending text = (counts : Counts) × IsReport One expanded games counts text
    × (ending ≡ ending_after counts.shown counts.refused portion)

-- the report on the first of the chosen games alone, if there is one; or that the one with this number is not there
abbrev pub IsReportOnOne : {T : Type 0} → (One : NumberedGame → Ending T → List ℕ → Type 0) → (number : ℕ)
    → List NumberedGame → Ending T → List ℕ → Type 0
IsReportOnOne One number [] ending text = (ending ≡ NoProblem number) × (text ≡ [])
IsReportOnOne One number (game ∷ more) ending text = One game ending text

-- the first line of a problem, if it is written before the search
abbrev pub heading : Geometry → (is_shown : Bool) → Numbered → List ℕ
heading g is_shown problem = if is_shown then first_line g problem else []

abbrev pub IsHeading : Geometry → (is_shown : Bool) → NumberedGame → List ℕ → Type 0
IsHeading g is_shown game text = text ≡ heading g is_shown (problem_of game)

-- nothing, or a part of the output for the first game
abbrev pub IsPartOfFirst : (Part : NumberedGame → List ℕ → Type 0) → List NumberedGame → List ℕ → Type 0
IsPartOfFirst Part [] text = text ≡ []
IsPartOfFirst Part (game ∷ games) text = (text ≡ []) ⊎ Part game text

-- The beginning of a report that a stop leaves: the whole output for some of the first games, and nothing more, or a
-- part of that for the next one.
pub record IsPartOfReport (One : (expanded : ℕ) → NumberedGame → (refused : Bool) → List ℕ → Type 0)
    (Part : NumberedGame → List ℕ → Type 0) (games : List NumberedGame) (text : List ℕ) : Type 0 where
  pub before : List NumberedGame
  pub behind : List NumberedGame
  pub are : games ≡ before ++ behind
  pub texts : List ℕ
  pub whole : AreTexts (λ game one. (expanded : ℕ) × (refused : Bool) × One expanded game refused one) before texts
  pub part : List ℕ
  pub further : IsPartOfFirst Part behind part
  pub is : text ≡ texts ++ part

-- the effect of a command on a problem with a position; a refused one has only its first line
abbrev pub IsDoneWith : {T : Type 0} → (Does : Placement → Ending T → List ℕ → Type 0) → (line : List ℕ) → Found
    → Ending T → List ℕ → Type 0
IsDoneWith Does line (Ok p) ending text = Does p ending text
IsDoneWith Does line (Err fault) ending text = (ending ≡ Refused) × (text ≡ line)
