-- The requests of the commands of `dw`, by their options.
use Rattle.std.specs.Prelude.{◌≡◌, ℕ, MatchBool, Option, Some, None, IsSomeAnd, option_map, unwrap_or, List, codes}
use Rattle.std.specs.Option.{option_copied, option_or}
use Rattle.std.specs.Str.{bytes_eq}
use Rattle.clap.specs.Words.{Row, Text}
use Rattle.dw_arguments.specs.Commands.{Keeps, ReadsFrom, moves_within, chosen_problem}
use Rattle.dw_arguments.specs.Options.{flag_option, number_option, text_option}
use Rattle.dw_arguments.specs.declared.report.ReportCommand.TheVariants as commands
use Rattle.dw_arguments.specs.declared.report.ReportArgs.{ReportArgs}

-- the part of a request that every command has: the board, the form of the problems, and the file
abbrev pub Reads : List Row → ReportArgs → Type 0
Reads options args = ReadsFrom options args.board args.form args.file

-- the part of a request that every command with a search has; the parser requires -n
pub record Searches (options : List Row) (args : ReportArgs) : Type 0 where
  pub reads : Reads options args
  pub n : args.n.value ≡ moves_within options
  pub positions : args.positions
      ≡ unwrap_or (number_option 1 1000000000000 options (codes "positions")) 1000000000000
  pub keeps : Keeps options args.memo args.cache

-- the request of `list`; a token without the number of a problem belongs to the first problem
pub record Lists (options : List Row) (args : ReportArgs) : Type 0 where
  pub searches : Searches options args
  pub only : args.only
      ≡ option_or (chosen_problem options) (option_map (λ token. 1) (text_option options (codes "after")))
  pub lines : args.lines ≡ unwrap_or (number_option 1 1000000000 options (codes "lines")) 1000000000
  pub after : option_copied args.after ≡ text_option options (codes "after")

-- the request of `show`
abbrev pub IsShow : List Row → ReportArgs → Type 0
IsShow options args =
    (args.command ≡ commands.Show) × (args.json ≡ flag_option options (codes "json"))
    × (args.only ≡ chosen_problem options) × Reads options args

-- the request of `moves`
abbrev pub IsMoves : List Row → ReportArgs → Type 0
IsMoves options args =
    (args.command ≡ commands.Moves) × (args.json ≡ flag_option options (codes "json"))
    × (args.only ≡ chosen_problem options) × Reads options args

-- the request of `judge`
abbrev pub IsJudge : List Row → ReportArgs → Type 0
IsJudge options args =
    (args.command ≡ commands.Judge) × (args.only ≡ chosen_problem options) × Searches options args

-- the request of `list`, with its command
abbrev pub IsList : List Row → ReportArgs → Type 0
IsList options args = (args.command ≡ commands.List) × Lists options args

-- the request of the command of this name with these options; no other name is a command
abbrev pub IsParsedFrom : (name : List ℕ) → (options : List Row) → Option ReportArgs → Type 0
IsParsedFrom name options answer =
    MatchBool (bytes_eq name (codes "show")) (IsSomeAnd answer (IsShow options))
    (MatchBool (bytes_eq name (codes "moves")) (IsSomeAnd answer (IsMoves options))
    (MatchBool (bytes_eq name (codes "judge")) (IsSomeAnd answer (IsJudge options))
    (MatchBool (bytes_eq name (codes "list")) (IsSomeAnd answer (IsList options)) (answer ≡ None))))

-- the request of a command line, by its command and the options of that
abbrev pub IsParsed : Option (Text × List Row) → Option ReportArgs → Type 0
IsParsed (Some command) answer = IsParsedFrom command.0 command.1 answer
IsParsed None answer = answer ≡ None
