-- The work of `dw` for a request.
use Rattle.std.specs.Prelude.{◌≡◌, ℕ, if◌then◌else◌, Bool, List, Option, Some, None}
use Rattle.dw_arguments.specs.declared.report.ReportArgs.{ReportArgs}
use Rattle.dw_arguments.specs.declared.report.ReportCommand.{ReportCommand}
use Rattle.dw_arguments.specs.declared.report.ReportCommand.TheVariants as asks
use Rattle.dw_board.specs.Geometry.{Geometry}
use Rattle.dw_commands.specs.Ending.{no_memory}
use Rattle.dw_commands.specs.declared.ending.Ending.{Ending}
use Rattle.dw_commands.specs.declared.ending.Ending.TheVariants as end
use Rattle.dw_list.specs.Tokens.{IsToken, token_fault}
use Rattle.dw_list.specs.declared.tokens.TokenFault.{TokenFault}
use Rattle.dw_moves.specs.Moves.{Move}
use Rattle.dw_report.specs.Request.{Request}
use Rattle.dw_report.specs.declared.settings.Command.{Command}
use Rattle.dw_report.specs.declared.settings.Command.TheVariants as does

-- the command of a report by the one that the arguments name; `show` and `moves` may write rows of JSON
abbrev pub command_for : ReportCommand → (json : Bool) → Command
command_for asks.Show json = if json then does.ShowRow else does.Show
command_for asks.Moves json = if json then does.MovesRow else does.Moves
command_for asks.Judge json = does.Judge
command_for asks.List json = does.List

-- the settings of a requested report, with the line after which lines are listed
abbrev pub request_for : ReportArgs → (after : Option (List Move)) → Request
request_for args after = record {
  command = command_for args.command args.json;
  form = args.form;
  moves = args.n.value;
  only = args.only;
  lines = args.lines;
  after = after;
}

-- the line that a token is of, or none if there is no token
abbrev pub IsLineOf : Geometry → (token : Option (List ℕ)) → (line : Option (List Move)) → Type 0
IsLineOf g None line = line ≡ None
IsLineOf g (Some token) None = ⊥
IsLineOf g (Some token) (Some line) = IsToken g token line

-- the first fault of a token, if there is one
abbrev pub fault_of : Geometry → (token : Option (List ℕ)) → Option TokenFault
fault_of g None = None
fault_of g (Some token) = token_fault g token

-- a program that ends before the run: the token has a fault, which the ending names, or memory was refused
abbrev pub EndsBefore : {T : Type 0} → Geometry → (token : Option (List ℕ)) → Ending T → Type 0
EndsBefore g token (end.TokenRefused fault) = fault_of g token ≡ Some fault
EndsBefore g token ending = ending ≡ no_memory
