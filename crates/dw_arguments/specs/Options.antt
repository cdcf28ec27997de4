-- The values of the options of a command. The parser of the command line returns them as rows, each with its name.
use Rattle.std.specs.Prelude.{ℕ, Bool, false, ◌&&◌, nat_lt, nat_le, if◌then◌else◌, Option, Some, None, option_and_then}
use Rattle.std.specs.Prelude.{List, length, codes}
use Rattle.std.specs.Option.{option_map_or}
use Rattle.std.specs.Str.{all_ascii_digits, bytes_eq}
use Rattle.std.specs.Str.Parse.{without_leading_plus, digits_value}
use Rattle.clap.specs.Words.{Row, first_of, found_of, one_of, rows_of}
use Rattle.clap.specs.declared.parser.matches.ArgMatches.{ArgMatches}
use Rattle.dw_notation.specs.declared.problems.Form.{Form}
use Rattle.dw_notation.specs.declared.problems.Form.TheVariants.{Fens, Pdn}

-- the options that matches hold
abbrev pub options_of : ArgMatches → List Row
options_of matches = rows_of (found_of matches)

-- one digit or more, and nothing else
abbrev pub is_numeral : List ℕ → Bool
is_numeral text = nat_lt 0 (length text) && all_ascii_digits text

-- the number that a text writes in digits, with a plus in front of them or without
abbrev pub number_in : List ℕ → Option ℕ
number_in text =
    if is_numeral (without_leading_plus text) then Some (digits_value 10 (without_leading_plus text)) else None

-- a number, if it is within these bounds
abbrev pub if_within : (least most : ℕ) → ℕ → Option ℕ
if_within least most n = if nat_le least n && nat_le n most then Some n else None

-- the number that a text writes, if it is within these bounds
abbrev pub number_within : (least most : ℕ) → List ℕ → Option ℕ
number_within least most text = option_and_then (if_within least most) (number_in text)

-- the number that the option of this name says, if it is given and within these bounds
abbrev pub number_option : (least most : ℕ) → List Row → (name : List ℕ) → Option ℕ
number_option least most options name = option_and_then (number_within least most) (one_of name options)

-- the text that the option of this name says, if it is given
abbrev pub text_option : List Row → (name : List ℕ) → Option (List ℕ)
text_option options name = first_of name options

-- whether the flag of this name is given
abbrev pub flag_option : List Row → (name : List ℕ) → Bool
flag_option options name = option_map_or (λ text. bytes_eq text (codes "true")) (one_of name options) false

-- the form of the problems in the file: tags with --pdn, else FEN texts
abbrev pub form_option : List Row → Form
form_option options = if flag_option options (codes "pdn") then Pdn else Fens
