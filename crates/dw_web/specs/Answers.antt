-- The output and the end of a program, by its arguments and its input. `before` is the report before the call, and
-- `after` the report after it; `full` means that there was no room for more.
use Rattle.std.specs.Prelude.{◌≡◌, ◌⊎◌, ℕ, Bool, true, false, List, [], Option, Some, None, Result, Ok, Err}
use Rattle.std.specs.Borrow.{Bor}
use Rattle.std.specs.Option.{option_copied}
use Rattle.clap.specs.Words.{subcommand_rows_of}
use Rattle.clap.specs.declared.parser.matches.ArgMatches.{ArgMatches}
use Rattle.dw_arguments.specs.DeskCommands as desk
use Rattle.dw_arguments.specs.ReportCommands as reports
use Rattle.dw_arguments.specs.declared.choices.BoardSize.{BoardSize}
use Rattle.dw_arguments.specs.declared.choices.BoardSize.TheVariants.{Ten, Eight}
use Rattle.dw_arguments.specs.declared.desk.DeskArgs.{DeskArgs}
use Rattle.dw_arguments.specs.declared.error.CliError.{CliError}
use Rattle.dw_arguments.specs.declared.report.ReportArgs.{ReportArgs}
use Rattle.dw_board.specs.Boards.{ten, eight}
use Rattle.dw_board.specs.Geometry.{Geometry}
use Rattle.dw_commands.specs.Ending.{EndsUnread, ending_of, outcome_of}
use Rattle.dw_commands.specs.Reports.{EndsBefore, IsLineOf, command_for, request_for}
use Rattle.dw_commands.specs.declared.ending.Ending.{Ending}
use Rattle.dw_commands.specs.declared.ending.Ending.TheVariants as end
use Rattle.dw_desk_commands.specs.Commands.{Obeys}
use Rattle.dw_desk_commands.specs.Ending.{FailsForCause}
use Rattle.dw_moves.specs.Moves.{Move}
use Rattle.dw_notation.specs.Streams.{Supply}
use Rattle.dw_report.specs.Running as running
use Rattle.dw_report.specs.Running.{StopsRightly}
use Rattle.dw_report.specs.declared.settings.RunFault.{RunFault}
use Rattle.dw_report.specs.declared.settings.RunFault.TheVariants.{Read, Stopped, Write}
use Rattle.dw_report.specs.declared.settings.Summary.{Summary}
use Rattle.dw_solve.specs.declared.stop.Stop.TheVariants.{Limit, Memory}
use Rattle.dw_web.specs.declared.ended.Reason.{Reason}
use Rattle.dw_web.specs.declared.ended.Reason.TheVariants as because
use Rattle.dw_web.specs.declared.words.Program.{Program}
use Rattle.dw_web.specs.declared.words.Program.TheVariants.{Report, Desk}

-- the board that arguments name
abbrev pub board_of : BoardSize → Geometry
board_of Ten = ten
board_of Eight = eight

-- the input at first: a source that has returned nothing, and has all of the input still to give
abbrev pub unread : (input : List ℕ) → Supply
unread input = record { told = []; coming = Some input; ends = 0 }

-- `dw` runs: the report on the input is written, or a beginning of it if the run was stopped or there is no more room
pub record Runs (g : Geometry) (args : ReportArgs) (input before after : List ℕ) (full : Bool)
    (ending : Ending (Bor (List ℕ))) : Type 0 where
  pub line : Option (List Move)
  pub is_line : IsLineOf g (option_copied args.after) line
  pub left : Supply
  pub ran : Result Summary RunFault
  pub runs : running.Runs g (request_for args line) (unread input) left before after ran
  pub stops : StopsRightly (command_for args.command args.json) 0 args.positions ran
  pub cause : ran ≡ Err Write → full ≡ true
  pub ends : ending ≡ ending_of ran args.only

-- a FILE cannot be opened; without one the program runs
abbrev pub RunsUnlessFile : (Runs : Type 0) → (file : Option (Bor (List ℕ))) → (before after : List ℕ)
    → Ending (Bor (List ℕ)) → Type 0
RunsUnlessFile Runs (Some file) before after ending = (ending ≡ end.NotOpened file) × (after ≡ before)
RunsUnlessFile Runs None before after ending = Runs

-- `dw` with these arguments: it ends before its run if the token of --after has a fault, or memory was refused
abbrev pub Reports : ReportArgs → (input before after : List ℕ) → (full : Bool)
    → Ending (Bor (List ℕ)) → Type 0
Reports args input before after full ending =
    (EndsBefore (board_of args.board) (option_copied args.after) ending × (after ≡ before))
    ⊎ RunsUnlessFile (Runs (board_of args.board) args input before after full ending) args.file before after ending

-- `dw` with arguments that were read
abbrev pub DoesReport : (input before after : List ℕ) → (full : Bool) → Ending (Bor (List ℕ))
    → Type 0
DoesReport input before after full ending = (matches : ArgMatches) × (args : ReportArgs)
    × reports.IsParsed (subcommand_rows_of matches) (Some args) × Reports args input before after full ending

-- `dw-desk` does what it is asked on the input
pub record DesksOn (g : Geometry) (args : DeskArgs) (input before after : List ℕ) (full : Bool)
    (ending : Ending (Bor (List ℕ))) : Type 0 where
  pub left : Supply
  pub obeys : Obeys g args (unread input) left before after ending
  pub read_failed : Bool
  pub cause : FailsForCause read_failed full ending

-- `dw-desk` with these arguments
abbrev pub Desks : DeskArgs → (input before after : List ℕ) → (full : Bool)
    → Ending (Bor (List ℕ)) → Type 0
Desks args input before after full ending =
    RunsUnlessFile (DesksOn (board_of args.board) args input before after full ending) args.file before after ending

-- `dw-desk` with arguments that were read
abbrev pub DoesDesk : (input before after : List ℕ) → (full : Bool) → Ending (Bor (List ℕ))
    → Type 0
DoesDesk input before after full ending = (matches : ArgMatches) × (args : DeskArgs)
    × desk.IsParsed (subcommand_rows_of matches) (Ok args) × Desks args input before after full ending

-- the arguments make no request: help was asked for, they are no command, or memory was refused
abbrev pub Refuses : (before after : List ℕ) → (full : Bool) → Ending (Bor (List ℕ)) → Type 0
Refuses before after full ending = (error : CliError) × EndsUnread before after full error ending

-- the effect of the named program; without a program nothing is done
abbrev pub RunsProgram : Option Program → (input before after : List ℕ) → (full : Bool)
    → Ending (Bor (List ℕ)) → Type 0
RunsProgram (Some Report) input before after full ending = DoesReport input before after full ending
RunsProgram (Some Desk) input before after full ending = DoesDesk input before after full ending
RunsProgram None input before after full ending = ⊥

-- the arguments are refused, or the program does what they request
abbrev pub Answers : Option Program → (input before after : List ℕ) → (full : Bool)
    → Ending (Bor (List ℕ)) → Type 0
Answers program input before after full ending =
    Refuses before after full ending ⊎ RunsProgram program input before after full ending

-- the reason of a run that failed
abbrev pub fault_reason : RunFault → Reason
fault_reason Write = because.ReportFull
fault_reason (Stopped Memory expanded) = because.OutOfMemory
fault_reason (Stopped Limit expanded) = because.Other
fault_reason Read = because.Other

-- the reason of an ending
abbrev pub reason_of : {T : Type 0} → Ending T → Reason
reason_of end.Done = because.Finished
reason_of end.Refused = because.Finished
reason_of (end.NoProblem number) = because.Finished
reason_of (end.ProblemRefused fault) = because.Finished
reason_of (end.NoCommand text) = because.ArgumentsRefused
reason_of (end.TokenRefused fault) = because.Other
reason_of (end.LineRefused number name place) = because.Other
reason_of end.TooManyPositions = because.Other
reason_of (end.NotOpened file) = because.Other
reason_of (end.Failed fault) = fault_reason fault

-- the number of a reason
abbrev pub reason_number : Reason → ℕ
reason_number because.Finished = 0
reason_number because.ArgumentsRefused = 1
reason_number because.ReportFull = 2
reason_number because.OutOfMemory = 3
reason_number because.Other = 4

-- an ending has this exit status and this number of its reason, and no message is written if it has none
abbrev pub IsTold : Ending (Bor (List ℕ)) → (status reason message : ℕ) → Type 0
IsTold ending status reason message =
    (status ≡ (outcome_of ending).status) × (reason ≡ reason_number (reason_of ending))
    × ((outcome_of ending).has_message ≡ false → message ≡ 0)
