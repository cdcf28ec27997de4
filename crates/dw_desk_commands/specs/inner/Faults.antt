-- The fault of a command, by the fault of a call that it made.
use Rattle.std.specs.Prelude.{◌≡◌, ℕ, Bool, false, Result, IfErr, ⊤}
use Rattle.dw_commands.specs.declared.ending.Ending.{Ending}
use Rattle.dw_commands.specs.declared.ending.Ending.TheVariants as end
use Rattle.dw_desk_commands.specs.Ending.{HasCause}
use Rattle.dw_desk_commands.specs.declared.chosen.Chosen.{Chosen}
use Rattle.dw_desk_commands.specs.inner.Choosing.{lender, source_of}
use Rattle.dw_desk_commands.specs.declared.desk.DeskFault.{DeskFault}
use Rattle.dw_desk_commands.specs.declared.desk.DeskFault.TheVariants as because
use Rattle.dw_games.specs.declared.games.GameFault.{GameFault}
use Rattle.dw_games.specs.declared.games.GameFault.TheVariants as reading
use Rattle.dw_mend.specs.declared.mend.MendFault.{MendFault}
use Rattle.dw_mend.specs.declared.mend.MendFault.TheVariants as mending
use Rattle.dw_report.specs.declared.settings.RunFault.{RunFault}
use Rattle.dw_report.specs.declared.settings.RunFault.TheVariants as running
use Rattle.dw_solve.specs.declared.stop.Stop.TheVariants as stops

-- the fault of a reader of games
abbrev pub of_game : GameFault → DeskFault
of_game reading.Failed = because.Read
of_game reading.Memory = because.Stopped stops.Memory

-- the fault of a search among neighbours
abbrev pub of_mend : MendFault → DeskFault
of_mend (mending.Stopped stop) = because.Stopped stop
of_mend mending.Write = because.Write

-- the fault as that of a run, after this number of expansions
abbrev pub run_fault : DeskFault → ℕ → RunFault
run_fault (because.Stopped stop) expanded = running.Stopped stop expanded
run_fault because.Read expanded = running.Read
run_fault because.Write expanded = running.Write

-- a fault has its cause, whatever was expanded
abbrev pub IsCaused : (source_failed sink_failed : Bool) → DeskFault → Type 0
IsCaused source_failed sink_failed fault =
    (expanded : ℕ) → HasCause source_failed sink_failed (run_fault fault expanded)

-- an error of a call that only writes has its cause in the sink
abbrev pub SinkFails : {X : Type 0} → (sink_failed : Bool) → Result X DeskFault → Type 0
SinkFails sink_failed result = IfErr result (IsCaused false sink_failed)

-- an error of a call that searches and writes has its cause in the sink, or in the number of positions expanded
abbrev pub ReportFails : {X : Type 0} → (sink_failed : Bool) → (expanded : ℕ) → Result X DeskFault → Type 0
ReportFails sink_failed expanded result =
    IfErr result (λ fault. HasCause false sink_failed (run_fault fault expanded))

-- A command reads from the source that it was given, and an error of it has its cause.
pub record CommandFails {B S X : Type 0} (is_failed : S → Bool) (sink_failed : Bool) (expanded : ℕ)
    (old new : Chosen B S) (result : Result X DeskFault) : Type 0 where
  pub source : lender new.text ≡ lender old.text
  pub cause : IfErr result (λ fault. HasCause (is_failed (source_of new.text)) sink_failed (run_fault fault expanded))

-- a command that comes to its end fails only since memory was refused
abbrev pub FailsForMemory : {T : Type 0} → Ending T → Type 0
FailsForMemory (end.Failed (running.Stopped stops.Memory expanded)) = ⊤
FailsForMemory (end.Failed fault) = ⊥
FailsForMemory other = ⊤
