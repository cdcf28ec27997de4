-- The problems of lines, as they are computed, and beginnings of a line that give the same, whatever follows.
use Rattle.std.specs.Prelude.{◌≡◌, ◌==◌, ℕ, if◌then◌else◌, List, ◌++◌, length, Bool, Option, Some, None, Result, Ok}
use Rattle.std.specs.Prelude.{Err, nat_lt}
use Rattle.std.specs.List.{list_all}
use Rattle.dw_board.specs.Geometry.{Geometry}
use Rattle.dw_board.specs.Placement.{Placement}
use Rattle.dw_board.specs.FenTokens.{is_blank}
use Rattle.dw_board.specs.Fen.{fen}
use Rattle.dw_board.specs.declared.fen.fault.FenFault.{FenFault}
use Rattle.dw_notation.specs.TextLines.{line_feed, without_mark, without_return, Found}
use Rattle.dw_notation.specs.declared.problems.TheConstants.{MAX_LINE}
use Rattle.dw_notation.specs.declared.problems.ProblemFault.TheVariants.{Fen, LineTooLong}

-- whether a byte is a line feed
abbrev pub is_line_feed : ℕ → Bool
is_line_feed byte = byte == line_feed

-- the result of reading a FEN text, as a problem
abbrev pub fen_found : Result Placement FenFault → Found
fen_found (Ok position) = Ok position
fen_found (Err fault) = Err (Fen fault)

-- the problem of a line without its carriage return, or none if it has only blanks
abbrev pub text_found : Geometry → List ℕ → Option Found
text_found g text =
    if nat_lt MAX_LINE (length text) then Some (Err LineTooLong)
    else (if list_all is_blank text then None else Some (fen_found (fen g text)))

-- the problem of a line, or none if it has only blanks
unfoldable pub line_found : Geometry → List ℕ → Option Found
line_found g line = text_found g (without_return line)

-- a line without the byte-order mark that may stand before the first one
abbrev pub line_of : Bool → List ℕ → List ℕ
line_of first line = if first then without_mark line else line

-- two beginnings of a line, the first one of a text or another, give the same problem, whatever follows
abbrev pub SaysSame : Bool → List ℕ → List ℕ → Type 0
SaysSame first line other =
    (g : Geometry) (more : List ℕ) → line_found g (line_of first (line ++ more))
    ≡ line_found g (line_of first (other ++ more))
