-- The request for a report, which has no limit, no cache and no order of moves.
use Rattle.std.specs.Prelude.{ℕ, Option, option_map, List, ◌==◌, Bool, true, false, Some, None}
use Rattle.dw_moves.specs.Moves.{Move}
use Rattle.dw_notation.specs.declared.problems.Form.{Form}
use Rattle.dw_report.specs.declared.settings.Command.{Command}
use Rattle.dw_report.specs.declared.settings.Command.TheVariants.{ShowRow, MovesRow}
use Rattle.dw_report.specs.declared.settings.Settings.{Settings}

-- the command, the form of the text, the number of moves, the only problem, the most lines, the line to list after
pub record Request : Type 0 where
  pub command : Command
  pub form : Form
  pub moves : ℕ
  pub only : Option ℕ
  pub lines : ℕ
  pub after : Option (List Move)

-- the request of a run's settings
abbrev pub request_of : {B : Type 0} → Settings B → Request
request_of settings = record {
  command = settings.command;
  form = settings.form;
  moves = settings.n;
  only = settings.only;
  lines = settings.lines;
  after = option_map (λ line. line.items) settings.after;
}

-- whether a command writes each problem as a row of JSON
abbrev pub writes_rows : Command → Bool
writes_rows ShowRow = true
writes_rows MovesRow = true
writes_rows words = false

-- whether the problem of a number is reported: all are, or the only one requested
abbrev pub number_is_chosen : Option ℕ → ℕ → Bool
number_is_chosen None number = true
number_is_chosen (Some only) number = number == only

-- whether the problem of a number is the only one requested
abbrev pub number_is_asked : Option ℕ → ℕ → Bool
number_is_asked None number = false
number_is_asked (Some only) number = number == only
