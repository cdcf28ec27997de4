-- The effect of `mend` on a problem.
use Rattle.std.specs.Prelude.{◌≡◌, ℕ, ◌++◌, Bool, true, if◌then◌else◌, not, ◌==◌, Ok, Err, List}
use Rattle.dw_arguments.specs.declared.mend.MendArgs.{MendArgs}
use Rattle.dw_board.specs.Geometry.{Geometry}
use Rattle.dw_board.specs.Placement.{Placement}
use Rattle.dw_commands.specs.declared.ending.Ending.{Ending}
use Rattle.dw_commands.specs.declared.ending.Ending.TheVariants.{Done, Refused}
use Rattle.dw_desk_commands.specs.ProblemText.{heading, refused_text}
use Rattle.dw_mend.specs.Changes.{AreNeighbours, Change}
use Rattle.dw_mend.specs.Mending.{AreBounded, IsMendStop, IsMendText}
use Rattle.dw_mend.specs.declared.rows.Wording.{Wording}
use Rattle.dw_mend.specs.declared.rows.Wording.TheVariants.{Words, Row}
use Rattle.dw_notation.specs.Problems.{Numbered}
use Rattle.dw_notation.specs.TextLines.{Found}
use Rattle.dw_parts.specs.Parts.{part_of}

-- the form of neighbours: text, or rows of JSON
abbrev pub wording_for : (json : Bool) → Wording
wording_for json = if json then Row else Words

-- The sound neighbours of the requested part are written, after a number of expansions within the bound for each. The
-- problem counts as refused if a neighbour stays undecided.
abbrev pub SaysMended : Geometry → MendArgs → (expanded : ℕ) → Placement → (refused : Bool) → List ℕ → Type 0
SaysMended g query expanded p refused text =
    (all sound undecided : ℕ)
    × IsMendText (wording_for query.json) g p query.n.value query.each query.part query.parts all sound undecided
    expanded text
    × AreBounded query.each all undecided 0 expanded × (refused ≡ not (undecided == 0))

-- the output for a problem, and whether it counts as refused
abbrev pub IsMended : Geometry → MendArgs → (expanded : ℕ) → Numbered → Found → (refused : Bool) → List ℕ → Type 0
IsMended g query expanded problem (Ok p) refused text =
    (further : List ℕ) × SaysMended g query expanded p refused further
    × (text ≡ heading g (not query.json) problem ++ further)
IsMended g query expanded problem (Err fault) refused text =
    (refused ≡ true) × (text ≡ refused_text g query.json problem fault)

-- the effect of `mend` on a problem
abbrev pub IsMendOf : {T : Type 0} → Geometry → MendArgs → (expanded : ℕ) → Numbered → Ending T → List ℕ → Type 0
IsMendOf g query expanded problem ending text = (refused : Bool)
    × IsMended g query expanded problem problem.found refused text × (ending ≡ (if refused then Refused else Done))

-- the part of the output that a stop leaves: the first line, unless there are rows, and the lines of the sound ones
-- among some first neighbours
abbrev pub IsMendPart : Geometry → MendArgs → Numbered → List ℕ → Type 0
IsMendPart g query problem text = (p : Placement) × (problem.found ≡ Ok p) × (lines : List ℕ)
    × ((all : List (Change × Placement)) → AreNeighbours g p all
    → IsMendStop (wording_for query.json) g query.n.value query.each (part_of query.part query.parts all) lines)
    × (text ≡ heading g (not query.json) problem ++ lines)
