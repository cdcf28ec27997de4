-- The output of `solution` for a position.
use Rattle.std.specs.Prelude.{◌≡◌, ◌==◌, ◌++◌, ◌∷◌, if◌then◌else◌, ℕ, List, [], codes, decimal, length, take, nat_lt}
use Rattle.std.specs.Prelude.{MatchBool, Bool, true, false, Ok, Err}
use Rattle.std.specs.List.{flat_map}
use Rattle.dw_board.specs.Geometry.{Geometry}
use Rattle.dw_board.specs.Placement.{Placement}
use Rattle.dw_board.specs.FenText.{written}
use Rattle.dw_moves.specs.Moves.{Move}
use Rattle.dw_notation.specs.Tags.{same_name}
use Rattle.dw_notation.specs.TextLines.{Found}
use Rattle.dw_notation.specs.declared.problems.ProblemFault.{ProblemFault}
use Rattle.dw_arguments.specs.declared.solution.SolutionArgs.{SolutionArgs}
use Rattle.dw_study.specs.Finding.{IsNumberFor}
use Rattle.dw_games.specs.Games.{NumberedGame}
use Rattle.dw_games.specs.TagRows.{TagText, AreTags}
use Rattle.dw_solve.specs.Lines.{Lines}
use Rattle.dw_report.specs.Refusals.{refusal_text}
use Rattle.dw_verdict.specs.Verdict.{Verdict, IsVerdict, unsolvable, cooked, dual, sound}
use Rattle.dw_report.specs.JsonRows.{refused_row}
use Rattle.dw_rows.specs.SolutionRow.{IsSolutionRow}
use Rattle.dw_solution.specs.FirstLines.{LinesFrom}
use Rattle.dw_solution.specs.Movetext.{IsMovetext}
use Rattle.dw_solution.specs.declared.heading.Heading.{Heading}
use Rattle.dw_solution.specs.declared.heading.VerdictKind.{VerdictKind}
use Rattle.dw_solution.specs.declared.heading.VerdictKind.TheVariants as kinds

-- a verdict without its moves
abbrev pub kind_of : Verdict → VerdictKind
kind_of unsolvable = kinds.Unsolvable
kind_of (cooked shortest keys) = kinds.Cooked
kind_of (dual beginning choices) = kinds.Dual
kind_of (sound key) = kinds.Sound

-- the first lines within n moves, at most as many as requested
abbrev pub AreFirstLines : Geometry → Placement → (n most : ℕ) → LinesFrom → Type 0
AreFirstLines g p n most first = (lines : List (List Move)) × Lines g p n lines
    × (first ≡ record { start = p; lines = take most lines; more = nat_lt most (length lines) })

-- The solution of a position within n moves: its verdict without moves, its first lines, as many as requested, and a
-- movetext of them.
pub record IsMovetextOf (g : Geometry) (p : Placement) (n most : ℕ) (heading : Heading) (first : LinesFrom) (many : ℕ)
    (movetext : List ℕ) : Type 0 where
  pub verdict : Verdict
  pub is_verdict : IsVerdict g p n verdict
  pub heads : heading ≡ record { kind = kind_of verdict; moves = n }
  pub are_first : AreFirstLines g p n most first
  pub is : IsMovetext g heading first many movetext

-- the movetext of the solution within n moves
abbrev pub IsSolution : Geometry → Placement → (n most : ℕ) → List ℕ → Type 0
IsSolution g p n most text =
    (heading : Heading) × (first : LinesFrom) × (many : ℕ) × IsMovetextOf g p n most heading first many text

-- a tag in a line of its own; nothing for `GameType` and `FEN`, which are written anew
abbrev pub own_line : TagText → List ℕ
own_line t =
    if same_name t.tag.name (codes "GameType") then []
    else if same_name t.tag.name (codes "FEN") then []
    else t.text ++ 10 ∷ []

-- the line with the type of the game for the board of ten rows; nothing for another board
abbrev pub type_line : Geometry → List ℕ
type_line g = if g.rows == 10 then codes "[GameType \"20\"]\n" else []

-- the tags that are written anew, the game's type and the position, and an empty line
abbrev pub new_lines : Geometry → Placement → List ℕ
new_lines g p = type_line g ++ (codes "[FEN \"" ++ (written g p ++ codes "\"]\n\n"))

-- The tags of a game, and an empty line: those of its section as they stood there, each in a line of its own, and then
-- those that are written anew.
abbrev pub AreWrittenTags : Geometry → Placement → (section text : List ℕ) → Type 0
AreWrittenTags g p section text =
    (tags : List TagText) × AreTags section tags × (text ≡ flat_map own_line tags ++ new_lines g p)

-- the number of moves: the least with a win up to the given number, or that number
abbrev pub IsNumberOf : Geometry → SolutionArgs → Placement → ℕ → Type 0
IsNumberOf g query p n = IsNumberFor g p query.is_least query.moves.value n

-- A position as a game: its tags, its solution, and an empty line.
abbrev pub IsGameText : Geometry → SolutionArgs → Placement → (section text : List ℕ) → Type 0
IsGameText g query p section text =
    (n : ℕ) × (tags : List ℕ) × (movetext : List ℕ) × IsNumberOf g query p n × AreWrittenTags g p section tags
    × IsSolution g p n query.lines movetext
    × (text ≡ tags ++ (movetext ++ codes "\n\n"))

-- a refused problem as a game, whose event has the reason
abbrev pub refused_game : (number : ℕ) → ProblemFault → List ℕ
refused_game number fault =
    codes "[Event \"problem " ++ (decimal number ++ (codes ": refused: " ++ (refusal_text fault
    ++ codes "\"]\n\n*\n\n")))

-- a problem as a game, with the tags of its section; and whether it counts as refused
abbrev pub IsGameFor : Geometry → SolutionArgs → (number : ℕ) → Found → (section : List ℕ) → (refused : Bool) → List ℕ
    → Type 0
IsGameFor g query number (Ok p) section refused text = (refused ≡ false) × IsGameText g query p section text
IsGameFor g query number (Err fault) section refused text = (refused ≡ true) × (text ≡ refused_game number fault)

-- A position as a row of JSON, with the moves of its movetext.
abbrev pub IsPositionRow : Geometry → SolutionArgs → (number : ℕ) → Placement → List ℕ → Type 0
IsPositionRow g query number p text =
    (n : ℕ) × (heading : Heading) × (first : LinesFrom) × (many : ℕ) × (movetext : List ℕ) × IsNumberOf g query p n
    × IsMovetextOf g p n query.lines heading first many movetext × IsSolutionRow g number heading first many text

-- a problem as a row of JSON, and whether it counts as refused
abbrev pub IsSolutionLine : Geometry → SolutionArgs → (number : ℕ) → Found → (refused : Bool) → List ℕ → Type 0
IsSolutionLine g query number (Ok p) refused text = (refused ≡ false) × IsPositionRow g query number p text
IsSolutionLine g query number (Err fault) refused text = (refused ≡ true) × (text ≡ refused_row number fault)

-- the output for a game that was read
abbrev pub IsSolutionOf : Geometry → SolutionArgs → NumberedGame → (refused : Bool) → List ℕ → Type 0
IsSolutionOf g query game refused text = MatchBool query.json
    (IsSolutionLine g query game.number game.said.found refused text)
    (IsGameFor g query game.number game.said.found game.said.tags refused text)
