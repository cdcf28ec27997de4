-- The effect of each command on the chosen problems of a text.
use Rattle.std.specs.Prelude.{◌≡◌, ◌⊎◌, ℕ, List, [], false, not}
use Rattle.dw_board.specs.Geometry.{Geometry}
use Rattle.dw_desk_commands.specs.Certify.{IsCertifyOf}
use Rattle.dw_desk_commands.specs.Check.{IsCheckOf}
use Rattle.dw_desk_commands.specs.Chosen.{AreChosen}
use Rattle.dw_desk_commands.specs.Ending.{ending_after}
use Rattle.dw_desk_commands.specs.Find.{IsFindOf}
use Rattle.dw_desk_commands.specs.Mend.{IsMendOf, IsMendPart}
use Rattle.dw_desk_commands.specs.Moves.{IsMovesOf}
use Rattle.dw_desk_commands.specs.Page.{IsPageOf, IsPageStop}
use Rattle.dw_desk_commands.specs.ProblemText.{IsHeading, IsPartOfFirst, IsPartOfReport, IsReportOnAll}
use Rattle.dw_desk_commands.specs.ProblemText.{IsReportOnOne}
use Rattle.dw_desk_commands.specs.Same.{IsSameOf, IsSamePart}
use Rattle.dw_desk_commands.specs.Solution.{IsSolutionOf}
use Rattle.dw_desk_commands.specs.Token.{IsTokenFor}
use Rattle.dw_desk_commands.specs.declared.desk.Counts.{Counts}
use Rattle.dw_commands.specs.declared.ending.Ending.{Ending}
use Rattle.dw_commands.specs.declared.ending.Ending.TheVariants.{Failed}
use Rattle.dw_arguments.specs.declared.portion.Portion.{Portion}
use Rattle.dw_arguments.specs.declared.desk.DeskArgs.{DeskArgs}
use Rattle.dw_arguments.specs.declared.desk.Task.{Task}
use Rattle.dw_arguments.specs.declared.desk.Task.TheVariants as task
use Rattle.dw_games.specs.Games.{NumberedGame, problem_of}
use Rattle.dw_notation.specs.declared.problems.Form.{Form}
use Rattle.dw_notation.specs.declared.problems.Form.TheVariants.{Pdn}
use Rattle.dw_notation.specs.Streams.{Supply, Reads, HoldsAhead, Appends}
use Rattle.dw_notation.specs.Writes.{IsBeginning}
use Rattle.dw_report.specs.declared.settings.RunFault.{RunFault}
use Rattle.dw_report.specs.declared.settings.RunFault.TheVariants as faults

-- the form of the problems for a task: tags for `check`, which needs games, else as the arguments say
abbrev pub form_for : Task → Form → Form
form_for (task.Check query) form = Pdn
form_for other form = form

-- The output of a command for the chosen games, and the ending of the program after it, if this number of positions
-- were expanded.
abbrev pub Tells : {T : Type 0} → Geometry → Portion → Task → (expanded : ℕ) → List NumberedGame → Ending T → List ℕ
    → Type 0
Tells g portion (task.Find query) expanded games ending text =
    IsReportOnAll (λ spent game. IsFindOf g query spent (problem_of game)) expanded portion games ending text
Tells g portion (task.Check query) expanded games ending text =
    IsReportOnAll (λ spent. IsCheckOf g query) expanded portion games ending text
Tells g portion (task.Solution query) expanded games ending text =
    IsReportOnAll (λ spent. IsSolutionOf g query) expanded portion games ending text
Tells g portion (task.Page query) expanded games ending text =
    (counts : Counts) × IsPageOf g query portion games counts text
    × (ending ≡ ending_after counts.shown counts.refused portion)
Tells g portion (task.Same query) expanded games ending text =
    (counts : Counts) × IsSameOf g query portion games counts text
    × (ending ≡ ending_after counts.shown counts.refused portion)
Tells g portion (task.Certify query) expanded games ending text =
    IsReportOnOne (λ game. IsCertifyOf g query.n.value (problem_of game)) portion.first games ending text
Tells g portion (task.Moves query) expanded games ending text =
    IsReportOnOne (λ game. IsMovesOf g query (problem_of game)) portion.first games ending text
Tells g portion (task.Mend query) expanded games ending text =
    IsReportOnOne (λ game. IsMendOf g query expanded (problem_of game)) portion.first games ending text
Tells g portion (task.Token line) expanded games ending text =
    IsReportOnOne (λ game. IsTokenFor g line.now game.said.found) portion.first games ending text

-- the output of a command for a text: that for its chosen games
pub record IsDone {T : Type 0} (g : Geometry) (args : DeskArgs) (expanded : ℕ) (bytes : List ℕ) (ending : Ending T)
    (text : List ℕ) : Type 0 where
  pub games : List NumberedGame
  pub are : AreChosen g (form_for args.task args.form) args.portion bytes games
  pub told : Tells g args.portion args.task expanded games ending text

-- A command is done, after a number of expansions: it reads some bytes, and just its output for them is written,
-- whatever bytes follow; or the end of its source is met.
pub record RunsCommand {T : Type 0} (g : Geometry) (args : DeskArgs) (expanded : ℕ) (before after : Supply)
    (accepted new : List ℕ) (ending : Ending T) : Type 0 where
  pub read : List ℕ
  pub took : Reads before after read
  pub text : List ℕ
  pub wrote : Appends accepted new text
  pub done : HoldsAhead (λ bytes. IsDone g args expanded bytes ending text) before after read

-- The output that a command leaves for the chosen games when it is stopped: whole texts of some first ones, and then
-- at most a beginning of the next one's text that ends with a whole line.
abbrev pub Leaves : Geometry → Task → List NumberedGame → List ℕ → Type 0
Leaves g (task.Find query) games text =
    IsPartOfReport (λ spent game. IsFindOf g query spent (problem_of game)) (IsHeading g (not query.json)) games text
Leaves g (task.Check query) games text = IsPartOfReport (λ spent. IsCheckOf g query) (IsHeading g false) games text
Leaves g (task.Solution query) games text =
    IsPartOfReport (λ spent. IsSolutionOf g query) (IsHeading g false) games text
Leaves g (task.Page query) games text = IsPageStop g query games text
Leaves g (task.Same query) games text = IsSamePart g query games text
Leaves g (task.Certify query) games text = text ≡ []
Leaves g (task.Moves query) games text = IsPartOfFirst (IsHeading g (not query.json)) games text
Leaves g (task.Mend query) games text = IsPartOfFirst (λ game. IsMendPart g query (problem_of game)) games text
Leaves g (task.Token line) games text = text ≡ []

-- the output after a fault: what a stop or a failed read leaves; or after a failed write any beginning of that or of
-- the whole output, byte for byte
abbrev pub StandsAfter : (T : Type 0) → Geometry → Portion → Task → RunFault → List NumberedGame → List ℕ → Type 0
StandsAfter T g portion task (faults.Stopped why expanded) games text = Leaves g task games text
StandsAfter T g portion task faults.Read games text = Leaves g task games text
StandsAfter T g portion task faults.Write games text = (whole : List ℕ) × IsBeginning text whole
    × (Leaves g task games whole
    ⊎ ((ending : Ending T) × (expanded : ℕ) × Tells g portion task expanded games ending whole))

-- the output of a command for a text, after a fault
pub record IsLeft (T : Type 0) (g : Geometry) (args : DeskArgs) (bytes : List ℕ) (fault : RunFault) (text : List ℕ) :
    Type 0 where
  pub games : List NumberedGame
  pub are : AreChosen g (form_for args.task args.form) args.portion bytes games
  pub stands : StandsAfter T g args.portion args.task fault games text

-- A command fails: it reads some bytes, and a beginning of its output for them is written, whatever bytes follow; or
-- the end of its source is met.
pub record FailsAt (T : Type 0) (g : Geometry) (args : DeskArgs) (before after : Supply) (accepted new : List ℕ)
    (fault : RunFault) : Type 0 where
  pub read : List ℕ
  pub took : Reads before after read
  pub text : List ℕ
  pub wrote : Appends accepted new text
  pub left : HoldsAhead (λ bytes. IsLeft T g args bytes fault text) before after read

-- a command is done; or the program was stopped, or a stream failed
abbrev pub Obeys : {T : Type 0} → Geometry → DeskArgs → (before after : Supply) → (accepted new : List ℕ) → Ending T
    → Type 0
Obeys {T} g args before after accepted new ending =
    ((fault : RunFault) × (ending ≡ Failed fault) × FailsAt T g args before after accepted new fault)
    ⊎ ((expanded : ℕ) × RunsCommand g args expanded before after accepted new ending)
