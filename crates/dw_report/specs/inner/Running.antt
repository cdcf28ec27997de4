-- The effect of the parts of a run.
use Rattle.std.specs.Prelude.{◌≡◌, ℕ, ◌+◌, ◌≤◌, ◌<◌, ◌⊎◌, List, [], ◌∷◌, ◌++◌, length, Bool, true, false, Result, Ok}
use Rattle.std.specs.Prelude.{Err}
use Rattle.dw_board.specs.Geometry.{Geometry}
use Rattle.dw_board.specs.Placement.{Placement}
use Rattle.dw_board.specs.Diagram.{diagram_text}
use Rattle.dw_notation.specs.TextLines.{line_feed, Found}
use Rattle.dw_notation.specs.Problems.{Numbered}
use Rattle.dw_notation.specs.inner.Writes.{Writes, WritesShort}
use Rattle.dw_solve.specs.Searching.{IsCounted}
use Rattle.dw_solve.specs.Solving.{Solving}
use Rattle.dw_solve.specs.declared.stop.Stop.{Stop}
use Rattle.dw_solve.specs.declared.stop.Stop.TheVariants.{Memory, Limit}
use Rattle.dw_report.specs.Request.{Request}
use Rattle.dw_report.specs.Report.{chosen, IsSaid, IsFurther, heading}
use Rattle.dw_report.specs.declared.settings.Summary.{Summary}
use Rattle.dw_report.specs.declared.settings.RunFault.{RunFault}
use Rattle.dw_report.specs.declared.settings.RunFault.TheVariants as ends
use Rattle.dw_report.specs.declared.settings.Command.{Command}
use Rattle.dw_report.specs.declared.settings.Command.TheVariants as asked
use Rattle.dw_report.specs.declared.problem.TextFault.{TextFault}
use Rattle.dw_report.specs.declared.problem.TextFault.TheVariants.{Stopped, Sink}
use Rattle.dw_report.specs.Running.{AreRefused, AreLinesOf}

-- the request is within its ranges: 1 to 20 moves, and at least one line
pub record IsSound (g : Geometry) (request : Request) : Type 0 where
  pub some : 1 ≤ request.moves
  pub few : request.moves ≤ 20
  pub lines : 1 ≤ request.lines

-- of the problems read some were shown, and of those some refused; there is room to count one more
pub record HasRoom (summary : Summary) : Type 0 where
  pub problems : summary.problems < 4000000
  pub shown : summary.shown ≤ summary.problems
  pub refused : summary.refused ≤ summary.shown

-- the counts with one more problem read, which is chosen or not
pub record CountsOne (g : Geometry) (request : Request) (old new : Summary) (problem : Numbered) : Type 0 where
  pub read : new.problems ≡ old.problems + 1
  pub shown : new.shown ≡ old.shown + length (chosen request.only (problem ∷ []))
  pub refused : (count : ℕ) × AreRefused g request (chosen request.only (problem ∷ [])) count
      × (new.refused ≡ old.refused + count)

-- the part of a problem's text after its heading that is known at once: the diagram, if the position is shown
abbrev pub at_once : Geometry → Found → Command → List ℕ
at_once g (Err fault) command = []
at_once g (Ok p) asked.Show = diagram_text g p
at_once g (Ok p) asked.ShowRow = []
at_once g (Ok p) asked.Moves = []
at_once g (Ok p) asked.MovesRow = []
at_once g (Ok p) asked.Judge = []
at_once g (Ok p) asked.List = []

-- the part of a problem's text after that
abbrev pub IsSaidThen : Geometry → Command → Request → ℕ → Placement → List ℕ → Type 0
IsSaidThen g asked.Show request number p text = text ≡ []
IsSaidThen g asked.ShowRow request number p text = IsSaid g asked.ShowRow request number p text
IsSaidThen g asked.Moves request number p text = IsSaid g asked.Moves request number p text
IsSaidThen g asked.MovesRow request number p text = IsSaid g asked.MovesRow request number p text
IsSaidThen g asked.Judge request number p text = IsSaid g asked.Judge request number p text
IsSaidThen g asked.List request number p text = IsSaid g asked.List request number p text

abbrev pub IsRest : Geometry → Request → ℕ → Placement → List ℕ → Type 0
IsRest g request number p text = IsSaidThen g request.command request number p text

-- the effect of writing a text: it was written; after a stop a part of it; after a fault of the sink some beginning
abbrev pub TextEnds : {X : Type 0} → (List ℕ → Type 0) → (List ℕ → Type 0) → List ℕ → List ℕ
    → Result X TextFault → Type 0
TextEnds P Part old new (Ok x) = Writes P old new
TextEnds P Part old new (Err (Stopped why)) = Writes Part old new
TextEnds P Part old new (Err Sink) = WritesShort P old new

-- the sink fails in this call exactly if it is the fault
abbrev pub SinkEnds : {X : Type 0} → Bool → Bool → Result X TextFault → Type 0
SinkEnds old new (Ok x) = new ≡ old
SinkEnds old new (Err (Stopped why)) = new ≡ old
SinkEnds old new (Err Sink) = new ≡ true

-- expansions are counted, up to the limit, and it is the limit that stops a search there
pub record Spends {M X : Type 0} (old new : Solving M) (result : Result X TextFault) : Type 0 where
  pub count : IsCounted old.expanded old.limit new.expanded new.limit
  pub limit : result ≡ Err (Stopped Limit) → new.expanded ≡ new.limit

-- a command searches for wins
abbrev pub searches : Command → Bool
searches asked.Show = false
searches asked.ShowRow = false
searches asked.Moves = false
searches asked.MovesRow = false
searches asked.Judge = true
searches asked.List = true

-- nothing was searched, and only lack of memory stops that
pub record IsStill {M X : Type 0} (old new : Solving M) (result : Result X TextFault) : Type 0 where
  pub same : new ≡ old
  pub memory : (why : Stop) → result ≡ Err (Stopped why) → why ≡ Memory

-- nothing is searched if positions are shown or moves are listed, and nothing stops a diagram
abbrev pub SearchesFor : {M X : Type 0} → Command → Solving M → Solving M → Result X TextFault → Type 0
SearchesFor asked.Show old new result = (new ≡ old) × ((why : Stop) → result ≡ Err (Stopped why) → ⊥)
SearchesFor asked.ShowRow old new result = IsStill old new result
SearchesFor asked.Moves old new result = IsStill old new result
SearchesFor asked.MovesRow old new result = IsStill old new result
SearchesFor asked.Judge old new result = Spends old new result
SearchesFor asked.List old new result = Spends old new result

-- the fault of a run that did not write a text to its end
abbrev pub ended_by : TextFault → ℕ → RunFault
ended_by (Stopped why) expanded = ends.Stopped why expanded
ended_by Sink expanded = ends.Write

-- a search is stopped at the limit, or out of memory before it
abbrev pub StopsSearch : ℕ → Stop → ℕ → Type 0
StopsSearch limit Limit expanded = expanded ≡ limit
StopsSearch limit Memory expanded = expanded ≤ limit

-- each line is whole: nothing, or something that ends with a line feed
abbrev pub AreWholeLines : List ℕ → Type 0
AreWholeLines lines = (lines ≡ []) ⊎ ((most : List ℕ) × (lines ≡ most ++ line_feed ∷ []))

-- the heading of a problem, and whole lines of what follows it
pub record IsProblemPart (g : Geometry) (request : Request) (problem : Numbered) (out : List ℕ) : Type 0 where
  pub lines : List ℕ
  pub are : AreLinesOf (IsFurther g request problem.number problem.found) lines
  pub is : out ≡ heading g request.command problem ++ lines
