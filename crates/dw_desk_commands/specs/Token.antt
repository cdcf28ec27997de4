-- The effect of `token` on a problem.
use Rattle.std.specs.Prelude.{◌≡◌, ◌++◌, ℕ, List, [], codes, Ok, Err}
use Rattle.dw_board.specs.Geometry.{Geometry}
use Rattle.dw_board.specs.Placement.{Placement}
use Rattle.dw_moves.specs.Moves.{Move}
use Rattle.dw_commands.specs.declared.ending.Ending.{Ending}
use Rattle.dw_commands.specs.declared.ending.Ending.TheVariants.{Done, LineRefused, ProblemRefused}
use Rattle.dw_games.specs.Lines.{IsWrittenLine, IsFirstLineFault, line_name_of, line_number_of}
use Rattle.dw_games.specs.declared.fault.LineFaultKind.{LineFaultKind}
use Rattle.dw_list.specs.Tokens.{token_of}
use Rattle.dw_notation.specs.TextLines.{Found}

-- the token of a written line, and a line end
abbrev pub IsTokenOf : Geometry → (line : List ℕ) → Placement → List ℕ → Type 0
IsTokenOf g line p text =
    (moves : List Move) × IsWrittenLine g p line moves × (text ≡ token_of g moves ++ codes "\n")

-- the token is written; or nothing, if the text is no line: then the program ends with its first fault, by
-- number and name
abbrev pub WritesToken : {T : Type 0} → Geometry → (line : List ℕ) → Placement → Ending T → List ℕ → Type 0
WritesToken g line p Done text = IsTokenOf g line p text
WritesToken g line p (LineRefused number name place) text =
    (what : LineFaultKind) × IsFirstLineFault g p line what place × (number ≡ line_number_of what)
    × (name.now ≡ line_name_of what) × (text ≡ [])
WritesToken g line p other text = ⊥

-- the effect of `token` on a problem; a refused one ends the program, and nothing is written
abbrev pub IsTokenFor : {T : Type 0} → Geometry → (line : List ℕ) → Found → Ending T → List ℕ → Type 0
IsTokenFor g line (Ok p) ending text = WritesToken g line p ending text
IsTokenFor g line (Err fault) ending text = (ending ≡ ProblemRefused fault) × (text ≡ [])
