-- What a command asks for, with its task.
use Rattle.std.proofs.Common.{◌≡◌, ℕ, List, sym, subst}
use Rattle.std.specs.Prelude.{Result, Ok, Err}
use Rattle.std.specs.Borrow.{Bor}
use Rattle.clap.specs.Words.{Row}
use Rattle.dw_arguments.specs.DeskCommands.{ForPortion}
use Rattle.dw_arguments.specs.declared.desk.DeskArgs.{DeskArgs}
use Rattle.dw_arguments.specs.declared.desk.Task.{Task}

-- a command for a portion asks for the task that it is given
pub with_task : (options : List Row) (Asks : List Row → Task → Type 0) (task : Task)
    (answer : Result DeskArgs (Bor (List ℕ))) → ForPortion options (λ rows query. query ≡ task) answer
    → Asks options task → ForPortion options Asks answer
with_task options Asks task (Ok words) is asks = (is.0, is.1, subst (Asks options) (sym is.2) asks)
with_task options Asks task (Err refusal) is asks = is
