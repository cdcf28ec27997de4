-- How the program ends after the problems that it reports, and if it fails.
use Rattle.std.specs.Prelude.{◌≡◌, ℕ, ◌==◌, if◌then◌else◌, Bool, true, ⊤}
use Rattle.dw_arguments.specs.declared.portion.Portion.{Portion}
use Rattle.dw_commands.specs.declared.ending.Ending.{Ending}
use Rattle.dw_commands.specs.declared.ending.Ending.TheVariants as end
use Rattle.dw_report.specs.declared.settings.RunFault.{RunFault}
use Rattle.dw_report.specs.declared.settings.RunFault.TheVariants as faults
use Rattle.dw_solve.specs.declared.stop.Stop.TheVariants as stops

-- the ending after problems of which this number count as refused
abbrev pub done_of : {T : Type 0} → ℕ → Ending T
done_of refused = if refused == 0 then end.Done else end.Refused

-- the ending after a number of reported problems; those that were requested by number may be missing
abbrev pub ending_after : {T : Type 0} → (shown refused : ℕ) → Portion → Ending T
ending_after shown refused portion =
    if portion.must_exist then (if shown == 0 then end.NoProblem portion.first else done_of refused)
    else done_of refused

-- A fault has its cause: for a read or a write that stream has failed; for a stop at a limit as many positions were
-- expanded as can be counted.
abbrev pub HasCause : (source_failed sink_failed : Bool) → RunFault → Type 0
HasCause source_failed sink_failed (faults.Stopped why expanded) =
    why ≡ stops.Limit → expanded ≡ 18446744073709551615
HasCause source_failed sink_failed faults.Read = source_failed ≡ true
HasCause source_failed sink_failed faults.Write = sink_failed ≡ true

-- a program that fails has a cause for it
abbrev pub FailsForCause : {T : Type 0} → (source_failed sink_failed : Bool) → Ending T → Type 0
FailsForCause source_failed sink_failed (end.Failed fault) = HasCause source_failed sink_failed fault
FailsForCause source_failed sink_failed other = ⊤
