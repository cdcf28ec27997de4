-- The requests of the commands of `dw-desk`, by their options.
use Rattle.std.specs.Prelude.{◌≡◌, ℕ, true, Result, Ok, Err, IsErr, MatchBool, Option, Some, None, is_some, option_map}
use Rattle.std.specs.Prelude.{List, [], codes, not, unwrap_or}
use Rattle.std.specs.Option.{option_or}
use Rattle.std.specs.Str.{bytes_eq}
use Rattle.std.specs.Borrow.{Bor}
use Rattle.clap.specs.Words.{Row, Text}
use Rattle.dw_arguments.specs.Choices.{language_named, placing_named, tries_named}
use Rattle.dw_arguments.specs.Commands.{Keeps, ReadsFrom, moves_within, chosen_problem}
use Rattle.dw_arguments.specs.Options.{flag_option, number_option, text_option}
use Rattle.dw_arguments.specs.Numbers.{part_named, portion_named}
use Rattle.dw_arguments.specs.declared.certify.CertifyArgs.{CertifyArgs}
use Rattle.dw_arguments.specs.declared.check.CheckArgs.{CheckArgs}
use Rattle.dw_arguments.specs.declared.find.FindArgs.{FindArgs}
use Rattle.dw_arguments.specs.declared.mend.MendArgs.{MendArgs}
use Rattle.dw_arguments.specs.declared.moves.MovesArgs.{MovesArgs}
use Rattle.dw_arguments.specs.declared.page.PageArgs.{PageArgs}
use Rattle.dw_arguments.specs.declared.portion.Portion.{Portion}
use Rattle.dw_arguments.specs.declared.same.SameArgs.{SameArgs}
use Rattle.dw_arguments.specs.declared.solution.SolutionArgs.{SolutionArgs}
use Rattle.dw_arguments.specs.declared.desk.DeskArgs.{DeskArgs}
use Rattle.dw_arguments.specs.declared.desk.Task.{Task}
use Rattle.dw_arguments.specs.declared.desk.Task.TheVariants as tasks

-- the most lines of a solution: as --lines says, or else 1000
abbrev pub lines_option : List Row → ℕ
lines_option options = unwrap_or (number_option 1 1000000 options (codes "lines")) 1000

-- the number of positions of --each
abbrev pub each_option : List Row → Option ℕ
each_option options = number_option 1 1000000000000 options (codes "each")

-- the request of `find`; the parser refuses -n beside --most
pub record AsksFind (options : List Row) (query : FindArgs) : Type 0 where
  pub moves : query.moves.value ≡ unwrap_or (option_or (number_option 1 20 options (codes "n"))
      (number_option 1 20 options (codes "most"))) 20
  pub is_least : query.is_least ≡ not (is_some (number_option 1 20 options (codes "n")))
  pub each : query.each ≡ each_option options
  pub json : query.json ≡ flag_option options (codes "json")
  pub solution : query.solution ≡ flag_option options (codes "solution")
  pub later : query.later ≡ number_option 1 19 options (codes "later")

-- the request of `check`; the parser refuses -n beside --most
pub record AsksCheck (options : List Row) (query : CheckArgs) : Type 0 where
  pub moves : option_map (λ n. n.value) query.moves
      ≡ option_or (number_option 1 20 options (codes "n")) (number_option 1 20 options (codes "most"))
  pub is_least : query.is_least ≡ is_some (number_option 1 20 options (codes "most"))
  pub faults : query.faults ≡ flag_option options (codes "faults")
  pub json : query.json ≡ flag_option options (codes "json")

-- the request of `solution`; the parser requires either -n or --most
pub record AsksSolution (options : List Row) (query : SolutionArgs) : Type 0 where
  pub moves : query.moves.value ≡ unwrap_or (option_or (number_option 1 20 options (codes "n"))
      (number_option 1 20 options (codes "most"))) 1
  pub is_least : query.is_least ≡ is_some (number_option 1 20 options (codes "most"))
  pub lines : query.lines ≡ lines_option options
  pub json : query.json ≡ flag_option options (codes "json")

-- the request of `page`; the parser requires either -n or --most
pub record AsksPage (options : List Row) (query : PageArgs) : Type 0 where
  pub moves : query.moves.value ≡ unwrap_or (option_or (number_option 1 20 options (codes "n"))
      (number_option 1 20 options (codes "most"))) 1
  pub is_least : query.is_least ≡ is_some (number_option 1 20 options (codes "most"))
  pub lines : query.lines ≡ lines_option options
  pub title : query.title.now ≡ unwrap_or (text_option options (codes "title")) (codes "dw-desk")
  pub language : query.language ≡ language_named (text_option options (codes "lang"))
  pub numbers : query.numbers ≡ flag_option options (codes "numbers")
  pub solutions : query.solutions ≡ placing_named (text_option options (codes "solutions"))
  pub tries : query.tries ≡ tries_named (text_option options (codes "tries"))

-- the request of `same`
pub record AsksSame (options : List Row) (query : SameArgs) : Type 0 where
  pub json : query.json ≡ flag_option options (codes "json")

-- the request of `certify`
pub record AsksCertify (options : List Row) (query : CertifyArgs) : Type 0 where
  pub n : query.n.value ≡ moves_within options

-- the request of `mend`
pub record AsksMend (options : List Row) (query : MendArgs) : Type 0 where
  pub n : query.n.value ≡ moves_within options
  pub each : query.each ≡ each_option options
  pub part : part_named (text_option options (codes "part")) ≡ Some (query.part, query.parts)
  pub json : query.json ≡ flag_option options (codes "json")

-- the request of `moves`
pub record AsksMoves (options : List Row) (query : MovesArgs) : Type 0 where
  pub n : query.n.value ≡ moves_within options
  pub part : part_named (text_option options (codes "part")) ≡ Some (query.part, query.parts)
  pub json : query.json ≡ flag_option options (codes "json")

-- the part of a request that every command has: the board, the form of the problems, and the file
abbrev pub Reads : List Row → DeskArgs → Type 0
Reads options args = ReadsFrom options args.board args.form args.file

-- the part of a request that every command with a search has: the memo and the progress line, too
pub record Searches (options : List Row) (args : DeskArgs) : Type 0 where
  pub reads : Reads options args
  pub keeps : Keeps options args.memo args.cache
  pub progress : args.progress ≡ flag_option options (codes "progress")

-- the portion that a text names
pub record IsPortion (text : Option (List ℕ)) (portion : Portion) : Type 0 where
  pub numbers : portion_named text ≡ Some (portion.first, portion.last)
  pub must_exist : portion.must_exist ≡ is_some text

-- the portion of one problem, the first if no number is given
pub record IsOneProblem (options : List Row) (portion : Portion) : Type 0 where
  pub first : portion.first ≡ unwrap_or (chosen_problem options) 1
  pub last : portion.last ≡ Some portion.first
  pub must_exist : portion.must_exist ≡ true

-- the task of `find`
abbrev pub IsFind : List Row → Task → Type 0
IsFind options task = (query : FindArgs) × (task ≡ tasks.Find query) × AsksFind options query

-- the task of `check`
abbrev pub IsCheck : List Row → Task → Type 0
IsCheck options task = (query : CheckArgs) × (task ≡ tasks.Check query) × AsksCheck options query

-- the task of `solution`
abbrev pub IsSolution : List Row → Task → Type 0
IsSolution options task = (query : SolutionArgs) × (task ≡ tasks.Solution query) × AsksSolution options query

-- the task of `page`
abbrev pub IsPage : List Row → Task → Type 0
IsPage options task = (query : PageArgs) × (task ≡ tasks.Page query) × AsksPage options query

-- the task of `same`
abbrev pub IsSame : List Row → Task → Type 0
IsSame options task = (query : SameArgs) × (task ≡ tasks.Same query) × AsksSame options query

-- the task of `certify`
abbrev pub IsCertify : List Row → Task → Type 0
IsCertify options task = (query : CertifyArgs) × (task ≡ tasks.Certify query) × AsksCertify options query

-- the task of `mend`
abbrev pub IsMend : List Row → Task → Type 0
IsMend options task = (query : MendArgs) × (task ≡ tasks.Mend query) × AsksMend options query

-- the task of `moves`
abbrev pub IsMoves : List Row → Task → Type 0
IsMoves options task = (query : MovesArgs) × (task ≡ tasks.Moves query) × AsksMoves options query

-- the task of `token`: the line of --line, which the parser requires
abbrev pub IsToken : List Row → Task → Type 0
IsToken options task = (line : Bor (List ℕ)) × (task ≡ tasks.Token line)
    × (line.now ≡ unwrap_or (text_option options (codes "line")) [])

-- a command for a portion of the problems; it is refused if the text names none
abbrev pub ForPortion : (options : List Row) → (Asks : List Row → Task → Type 0) → Result DeskArgs (Bor (List ℕ))
    → Type 0
ForPortion options Asks (Ok args) = Searches options args
    × IsPortion (text_option options (codes "problem")) args.portion × Asks options args.task
ForPortion options Asks (Err refusal) = portion_named (text_option options (codes "problem")) ≡ None

-- a command that reads a portion of the problems and searches nothing; it is refused if the text names none
abbrev pub ForReading : (options : List Row) → (Asks : List Row → Task → Type 0) → Result DeskArgs (Bor (List ℕ))
    → Type 0
ForReading options Asks (Ok args) = Reads options args
    × IsPortion (text_option options (codes "problem")) args.portion × Asks options args.task
ForReading options Asks (Err refusal) = portion_named (text_option options (codes "problem")) ≡ None

-- a command for one problem; it is never refused
abbrev pub ForOne : (options : List Row) → (Asks : List Row → Task → Type 0) → Result DeskArgs (Bor (List ℕ)) → Type 0
ForOne options Asks (Ok args) = Searches options args × IsOneProblem options args.portion × Asks options args.task
ForOne options Asks (Err refusal) = ⊥

-- a command for a part of the work on one problem; it is refused if the text names no part
abbrev pub ForPart : (options : List Row) → (Asks : List Row → Task → Type 0) → Result DeskArgs (Bor (List ℕ)) → Type 0
ForPart options Asks (Ok args) = Searches options args × IsOneProblem options args.portion × Asks options args.task
ForPart options Asks (Err refusal) = part_named (text_option options (codes "part")) ≡ None

-- the command `token`, which searches nothing; it is never refused
abbrev pub ForLine : (options : List Row) → Result DeskArgs (Bor (List ℕ)) → Type 0
ForLine options (Ok args) = Reads options args × IsOneProblem options args.portion × IsToken options args.task
ForLine options (Err refusal) = ⊥

-- the request of the command of this name with these options; no other name is a command
abbrev pub IsParsedFrom : (name : List ℕ) → (options : List Row) → Result DeskArgs (Bor (List ℕ)) → Type 0
IsParsedFrom name options answer =
    MatchBool (bytes_eq name (codes "find")) (ForPortion options IsFind answer)
    (MatchBool (bytes_eq name (codes "check")) (ForPortion options IsCheck answer)
    (MatchBool (bytes_eq name (codes "solution")) (ForPortion options IsSolution answer)
    (MatchBool (bytes_eq name (codes "moves")) (ForPart options IsMoves answer)
    (MatchBool (bytes_eq name (codes "page")) (ForPortion options IsPage answer)
    (MatchBool (bytes_eq name (codes "same")) (ForReading options IsSame answer)
    (MatchBool (bytes_eq name (codes "certify")) (ForOne options IsCertify answer)
    (MatchBool (bytes_eq name (codes "mend")) (ForPart options IsMend answer)
    (MatchBool (bytes_eq name (codes "token")) (ForLine options answer) (IsErr answer)))))))))

-- the request of a command line, by its command and the options of that
abbrev pub IsParsed : Option (Text × List Row) → Result DeskArgs (Bor (List ℕ)) → Type 0
IsParsed (Some command) answer = IsParsedFrom command.0 command.1 answer
IsParsed None answer = IsErr answer
