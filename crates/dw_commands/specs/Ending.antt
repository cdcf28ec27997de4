-- How a program ends: the table of its exit statuses.
use Rattle.std.specs.Prelude.{◌≡◌, ◌⊎◌, ℕ, ◌==◌, nat_lt, if◌then◌else◌, Bool, true, false, List, Option, Some, None}
use Rattle.std.specs.Prelude.{Result, Ok, Err}
use Rattle.std.specs.Borrow.{Bor}
use Rattle.dw_notation.specs.Streams.{Appends}
use Rattle.std.specs.String.{string_bytes}
use Rattle.dw_arguments.specs.declared.error.CliError.{CliError}
use Rattle.dw_arguments.specs.declared.error.CliError.TheVariants as words
use Rattle.dw_report.specs.declared.settings.Summary.{Summary}
use Rattle.dw_report.specs.declared.settings.RunFault.{RunFault}
use Rattle.dw_report.specs.declared.settings.RunFault.TheVariants.{Stopped, Write}
use Rattle.dw_solve.specs.declared.stop.Stop.TheVariants.{Memory}
use Rattle.dw_commands.specs.declared.ending.Ending.{Ending}
use Rattle.dw_commands.specs.declared.ending.Ending.TheVariants as end
use Rattle.dw_commands.specs.declared.ending.Exit.{Exit}

-- the ending if memory was refused before the run
abbrev pub no_memory : {T : Type 0} → Ending T
no_memory = end.Failed (Stopped Memory 0)

-- the ending if standard output failed
abbrev pub write_failed : {T : Type 0} → Ending T
write_failed = end.Failed Write

-- the ending after a run without refusals: if one problem was asked for and none was shown, it is not there
abbrev pub asked_of : {T : Type 0} → ℕ → Option ℕ → Ending T
asked_of shown None = end.Done
asked_of shown (Some number) = if shown == 0 then end.NoProblem number else end.Done

-- the ending after a run that ended by itself: something was refused, or the problem asked for is not there, or all was
-- done
abbrev pub done_of : {T : Type 0} → Summary → Option ℕ → Ending T
done_of summary only = if nat_lt 0 summary.refused then end.Refused else asked_of summary.shown only

-- the ending after a run, which may have been for one problem only
abbrev pub ending_of : {T : Type 0} → Result Summary RunFault → Option ℕ → Ending T
ending_of (Err fault) only = end.Failed fault
ending_of (Ok summary) only = done_of summary only

-- an exit without a line on standard error
abbrev pub quiet : ℕ → Exit
quiet status = record { status = status; has_message = false }

-- an exit with the line of its ending on standard error
abbrev pub with_message : ℕ → Exit
with_message status = record { status = status; has_message = true }

-- The exit of each ending. The status is 0 if all was done; 1 if something was refused, is undecided or is not there; 2
-- if the words are no command; 3 if the program was stopped, the memo was too small, or a file could not be opened,
-- read or written. All endings have a line but the first and a refusal that the output says.
abbrev pub outcome_of : {T : Type 0} → Ending T → Exit
outcome_of end.Done = quiet 0
outcome_of end.Refused = quiet 1
outcome_of (end.NoProblem number) = with_message 1
outcome_of (end.TokenRefused fault) = with_message 1
outcome_of (end.ProblemRefused fault) = with_message 1
outcome_of (end.LineRefused number name place) = with_message 1
outcome_of (end.NoCommand text) = with_message 2
outcome_of end.TooManyPositions = with_message 3
outcome_of (end.NotOpened file) = with_message 3
outcome_of (end.Failed fault) = with_message 3

-- an ending that says that the arguments are no command, with this text
abbrev pub SaysWhy : List ℕ → Ending (Bor (List ℕ)) → Type 0
SaysWhy why (end.NoCommand text) = text.now ≡ why
SaysWhy why ending = ⊥

-- The ending if a command line makes no request. Help that was asked for is written, unless the sink fails; otherwise
-- nothing is written.
abbrev pub EndsUnread : (before after : List ℕ) → (failed : Bool) → CliError → Ending (Bor (List ℕ)) → Type 0
EndsUnread before after failed (words.Help text) ending =
    ((ending ≡ end.Done) × Appends before after (string_bytes text)) ⊎ ((ending ≡ write_failed) × (failed ≡ true))
EndsUnread before after failed (words.NoCommand text) ending = SaysWhy (string_bytes text) ending × (after ≡ before)
EndsUnread before after failed (words.Refused text) ending = SaysWhy text.now ending × (after ≡ before)
EndsUnread before after failed words.Memory ending = (ending ≡ no_memory) × (after ≡ before)
