-- The lines of a byte text, and their problems.
use Rattle.std.specs.Prelude.{◌≡◌, ℕ, ◌==◌, ◌-◌, ◌&&◌, if◌then◌else◌, List, [], ◌∷◌, ◌++◌, length, take, slice_index}
use Rattle.std.specs.Prelude.{Bool, false, Result, Ok, Err, nat_lt, MatchBool}
use Rattle.std.specs.List.{list_all}
use Rattle.dw_board.specs.Geometry.{Geometry}
use Rattle.dw_board.specs.Placement.{Placement}
use Rattle.dw_board.specs.FenTokens.{is_blank}
use Rattle.dw_board.specs.FenGrammar.{Fen}
use Rattle.dw_board.specs.FenFaults.{IsFirstFault}
use Rattle.dw_notation.specs.declared.problems.TheConstants.{MAX_LINE}
use Rattle.dw_notation.specs.declared.problems.ProblemFault.{ProblemFault}
use Rattle.dw_notation.specs.declared.problems.ProblemFault.TheVariants as why

-- the text without a byte-order mark, the three bytes EF BB BF at its very front
abbrev pub without_mark : List ℕ → List ℕ
without_mark [] = []
without_mark (a ∷ []) = a ∷ []
without_mark (a ∷ b ∷ []) = a ∷ b ∷ []
without_mark (a ∷ b ∷ c ∷ bytes) = if (a == 0xEF) && (b == 0xBB) && (c == 0xBF) then bytes else a ∷ b ∷ c ∷ bytes

-- the bytes that end lines
abbrev pub line_feed : ℕ
line_feed = 10

abbrev pub carriage_return : ℕ
carriage_return = 13

-- no line feed is among them
abbrev pub NoLineFeed : List ℕ → Type 0
NoLineFeed [] = Unit {0}
NoLineFeed (byte ∷ bytes) = ((byte == line_feed) ≡ false) × NoLineFeed bytes

-- the line without one carriage return at its end
abbrev pub without_return : List ℕ → List ℕ
without_return line =
    if slice_index line (length line - 1) == carriage_return then take (length line - 1) line else line

-- a position, or why there is none
abbrev pub Found : Type 0
Found = Result Placement ProblemFault

-- a FEN text says the position that it names, or its earliest fault
abbrev pub FenSays : Geometry → List ℕ → Found → Type 0
FenSays g text (Ok position) = Fen g text position
FenSays g text (Err (why.Fen fault)) = IsFirstFault g text fault
FenSays g text (Err other) = ⊥

-- the problem of a line: too long; none, if it has only blanks; or that of its FEN text
abbrev pub LineSays : Geometry → List ℕ → List Found → Type 0
LineSays g line said =
    MatchBool (nat_lt MAX_LINE (length line)) (said ≡ Err why.LineTooLong ∷ [])
    (MatchBool (list_all is_blank line) (said ≡ []) ((found : Found) × FenSays g line found × (said ≡ found ∷ [])))

-- an unfinished line, comment or section at the end of a text counts only if no more bytes can come
abbrev pub if_over : Bool → List Found → List Found
if_over over said = if over then said else []

-- a text is a row of lines, and has their problems in turn; the last one needs no line feed
pub data LinesSay : Geometry → Bool → List ℕ → List Found → Type 0 where
  last : {g : Geometry} {over : Bool} (line : List ℕ) (said : List Found) → NoLineFeed line
      → LineSays g (without_return line) said → LinesSay g over line (if_over over said)
  one_more : {g : Geometry} {over : Bool} {more : List ℕ} {found : List Found} (line : List ℕ) (said : List Found)
      → NoLineFeed line → LineSays g (without_return line) said → LinesSay g over more found
      → LinesSay g over (line ++ line_feed ∷ more) (said ++ found)
