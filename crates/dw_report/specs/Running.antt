-- The output and the counts of a run, also if a stream failed or the run was stopped.
use Rattle.std.specs.Prelude.{◌≡◌, ℕ, ◌+◌, ◌≤◌, ◌<◌, ◌⊎◌, if◌then◌else◌, List, [], ◌∷◌, ◌++◌, length, true, false}
use Rattle.std.specs.Prelude.{Option, Some, None, Result, Ok, Err}
use Rattle.std.specs.List.{list_any}
use Rattle.dw_board.specs.Geometry.{Geometry}
use Rattle.dw_board.specs.Placement.{Placement}
use Rattle.dw_moves.specs.Moves.{Move}
use Rattle.dw_notation.specs.TextLines.{line_feed, Found}
use Rattle.dw_notation.specs.Problems.{Numbered, AreProblems}
use Rattle.dw_notation.specs.Streams.{Supply, Reads, MeetsEnd, HoldsAhead}
use Rattle.dw_notation.specs.Writes.{IsBeginning}
use Rattle.dw_notation.specs.declared.problems.TheConstants.{MAX_PROBLEMS, MAX_READ}
use Rattle.dw_notation.specs.declared.problems.Form.{Form}
use Rattle.dw_solve.specs.declared.stop.Stop.{Stop}
use Rattle.dw_solve.specs.declared.stop.Stop.TheVariants.{Memory, Limit}
use Rattle.dw_solve.specs.Lines.{Line}
use Rattle.dw_report.specs.Request.{number_is_asked, Request}
use Rattle.dw_report.specs.Report.{IsReport, IsReportOn, IsFurther, AreTexts, heading, chosen}
use Rattle.dw_report.specs.declared.settings.Summary.{Summary}
use Rattle.dw_report.specs.declared.settings.RunFault.{RunFault}
use Rattle.dw_report.specs.declared.settings.RunFault.TheVariants as ends
use Rattle.dw_report.specs.declared.settings.Command.{Command}
use Rattle.dw_report.specs.declared.settings.Command.TheVariants as asked

-- the problems up to and including the requested one; all, if none is requested or it is not there
abbrev pub up_to_asked : Option ℕ → List Numbered → List Numbered
up_to_asked only [] = []
up_to_asked only (first ∷ more) = first ∷ (if number_is_asked only first.number then [] else up_to_asked only more)

-- a list of moves is given, and it is no line of the position
abbrev pub IsNoLine : Geometry → Placement → ℕ → Option (List Move) → Type 0
IsNoLine g p n None = ⊥
IsNoLine g p n (Some l) = Line g p n l → ⊥

-- the problem is refused, or its lines are to be listed after moves that are no line of it
abbrev pub IsRefused : Geometry → Request → Found → Type 0
IsRefused g request (Ok p) = (request.command ≡ asked.List) × IsNoLine g p request.moves request.after
IsRefused g request (Err fault) = Unit {0}

-- this number of these problems are refused
abbrev pub AreRefused : Geometry → Request → List Numbered → ℕ → Type 0
AreRefused g request [] count = count ≡ 0
AreRefused g request (problem ∷ problems) count =
    (IsRefused g request problem.found × (rest : ℕ) × AreRefused g request problems rest × (count ≡ rest + 1))
    ⊎ ((IsRefused g request problem.found → ⊥) × AreRefused g request problems count)

-- the summary counts the problems read, those reported, and the refusals among them
pub record Counts (g : Geometry) (request : Request) (summary : Summary) (problems : List Numbered) : Type 0 where
  pub read : summary.problems ≡ length (up_to_asked request.only problems)
  pub shown : summary.shown ≡ length (chosen request.only problems)
  pub refusals : AreRefused g request (chosen request.only problems) summary.refused

-- no more was read than the problem of this number needs: fewer problems than this number had ended before the last
-- bytes read, at most 2,048
pub record ReadsUpTo (g : Geometry) (form : Form) (number : ℕ) (read : List ℕ) : Type 0 where
  pub before : List ℕ
  pub last : List ℕ
  pub split : read ≡ before ++ last
  pub few : length last ≤ MAX_READ
  pub ended : List Numbered
  pub are : AreProblems g form false before ended
  pub fewer : length ended < number

-- the source was read to its end, or up to the problem with which the run ends: the one requested, or the 1,000,001st
abbrev pub IsReadThrough : Geometry → Request → List Numbered → (before after : Supply) → (read : List ℕ) → Type 0
IsReadThrough g request problems before after read =
    MeetsEnd before after ⊎ ((number : ℕ) × ((request.only ≡ Some number) ⊎ (number ≡ MAX_PROBLEMS + 1))
    × (number ≤ length problems) × ReadsUpTo g request.form number read)

-- the output is the whole report on these bytes; the counts are right, and no more was read than needed
pub record IsWhole (g : Geometry) (request : Request) (before after : Supply) (read bytes out : List ℕ)
    (summary : Summary) : Type 0 where
  pub problems : List Numbered
  pub are : AreProblems g request.form true bytes problems
  pub report : IsReportOn g request problems out
  pub counts : Counts g request summary problems
  pub through : IsReadThrough g request problems before after read

-- after a failed read: the chosen problems that had ended were written, and the requested one had not ended
pub record StopsReading (g : Geometry) (request : Request) (read out : List ℕ) : Type 0 where
  pub ended : List Numbered
  pub are : AreProblems g request.form false read ended
  pub report : IsReportOn g request ended out
  pub unasked : list_any (λ problem. number_is_asked request.only problem.number) ended ≡ false

-- whole lines at the beginning of a text of some kind: nothing, or something that ends with a line feed
pub record AreLinesOf (P : List ℕ → Type 0) (lines : List ℕ) : Type 0 where
  pub text : List ℕ
  pub is : P text
  pub front : IsBeginning lines text
  pub whole : (lines ≡ []) ⊎ ((most : List ℕ) × (lines ≡ most ++ line_feed ∷ []))

-- the whole texts of the chosen problems before the one of this number; its first line, or nothing before a row; and
-- whole lines of its rest
pub record IsPartOn (g : Geometry) (request : Request) (number : ℕ) (problems : List Numbered) (out : List ℕ) :
    Type 0 where
  pub before : List Numbered
  pub problem : Numbered
  pub behind : List Numbered
  pub are : chosen request.only problems ≡ before ++ problem ∷ behind
  pub here : problem.number ≡ number
  pub texts : List ℕ
  pub whole : AreTexts g request before texts
  pub lines : List ℕ
  pub further : AreLinesOf (IsFurther g request problem.number problem.found) lines
  pub is : out ≡ texts ++ (heading g request.command problem ++ lines)

-- a beginning of the report on some bytes, up to a line of some problem; no more was read than that problem needs
pub record IsPart (g : Geometry) (request : Request) (read bytes out : List ℕ) : Type 0 where
  pub problems : List Numbered
  pub are : AreProblems g request.form true bytes problems
  pub number : ℕ
  pub need : ReadsUpTo g request.form number read
  pub part : IsPartOn g request number problems out

-- the output of a run that read these bytes: the whole report, or a stated beginning of it
abbrev pub RunEnds : Geometry → Request → (before after : Supply) → (read out : List ℕ) → Result Summary RunFault
    → Type 0
RunEnds g request before after read out (Ok summary) =
    HoldsAhead (λ bytes. IsWhole g request before after read bytes out summary) before after read
RunEnds g request before after read out (Err (ends.Stopped why expanded)) =
    HoldsAhead (λ bytes. IsPart g request read bytes out) before after read
RunEnds g request before after read out (Err ends.Read) = StopsReading g request read out
RunEnds g request before after read out (Err ends.Write) =
    HoldsAhead (λ bytes. (whole : List ℕ) × IsReport g request bytes whole × IsBeginning out whole) before after read

-- the effect of a run on its source and its sink: it read some bytes, and wrote its output for them
pub record Runs (g : Geometry) (request : Request) (before after : Supply) (accepted new : List ℕ)
    (result : Result Summary RunFault) : Type 0 where
  pub read : List ℕ
  pub took : Reads before after read
  pub out : List ℕ
  pub wrote : new ≡ accepted ++ out
  pub ends : RunEnds g request before after read out result

-- how a run may be stopped, with a solver that had expanded `before` positions: `show` never; `moves` and rows only for
-- lack of memory, and nothing is expanded; a search also at its limit, never above it
abbrev pub MayStop : Command → (before limit : ℕ) → Stop → (expanded : ℕ) → Type 0
MayStop asked.Show before limit why expanded = ⊥
MayStop asked.ShowRow before limit why expanded = (why ≡ Memory) × (expanded ≡ before)
MayStop asked.Moves before limit why expanded = (why ≡ Memory) × (expanded ≡ before)
MayStop asked.MovesRow before limit why expanded = (why ≡ Memory) × (expanded ≡ before)
MayStop searches before limit Limit expanded = expanded ≡ limit
MayStop searches before limit Memory expanded = expanded ≤ limit

-- a run is stopped only as its command and its limit allow
abbrev pub StopsRightly : Command → (before limit : ℕ) → Result Summary RunFault → Type 0
StopsRightly command before limit result =
    (why : Stop) (expanded : ℕ) → result ≡ Err (ends.Stopped why expanded) → MayStop command before limit why expanded

-- a run that is stopped tells how many positions its solver has expanded
abbrev pub TellsExpanded : (expanded : ℕ) → Result Summary RunFault → Type 0
TellsExpanded expanded result =
    (why : Stop) (told : ℕ) → result ≡ Err (ends.Stopped why told) → told ≡ expanded
