-- The parts of a request that both programs have, by the options of a command.
use Rattle.std.specs.Prelude.{◌≡◌, ℕ, Option, unwrap_or, List, codes}
use Rattle.std.specs.Borrow.{Bor}
use Rattle.std.specs.Option.{option_copied}
use Rattle.clap.specs.Words.{Row}
use Rattle.dw_arguments.specs.Choices.{board_named, memo_named}
use Rattle.dw_arguments.specs.Options.{form_option, number_option, text_option}
use Rattle.dw_arguments.specs.declared.choices.BoardSize.{BoardSize}
use Rattle.dw_arguments.specs.declared.choices.MemoKind.{MemoKind}
use Rattle.dw_notation.specs.declared.problems.Form.{Form}

-- the number of the requested problem
abbrev pub chosen_problem : List Row → Option ℕ
chosen_problem options = number_option 1 1000000 options (codes "problem")

-- the number of moves of -n, which the parser requires
abbrev pub moves_within : List Row → ℕ
moves_within options = unwrap_or (number_option 1 20 options (codes "n")) 1

-- the board, the form of the problems in the file, and the file
pub record ReadsFrom (options : List Row) (rows : BoardSize) (how : Form) (from : Option (Bor (List ℕ))) : Type 0
  where
    pub board : rows ≡ board_named (text_option options (codes "board"))
    pub form : how ≡ form_option options
    pub file : option_copied from ≡ text_option options (codes "FILE")

-- the memo, and how many positions it keeps: as --cache says, or else 1,000,000
pub record Keeps (options : List Row) (kind : MemoKind) (kept : ℕ) : Type 0 where
  pub memo : kind ≡ memo_named (text_option options (codes "memo"))
  pub cache : kept ≡ unwrap_or (number_option 1 4000000 options (codes "cache")) 1000000
