-- The text of a line on a line of its own, and what a list of lines begins with.
use Rattle.std.specs.Prelude.{◌≡◌, ◌==◌, ◌||◌, ℕ, ◌↔◌, ◌≤◌, List, [], ◌∷◌, ◌++◌, length, Bool, codes, decimal}
use Rattle.std.specs.Prelude.{if◌then◌else◌}
use Rattle.dw_board.specs.Geometry.{Geometry}
use Rattle.dw_board.specs.Placement.{Placement}
use Rattle.dw_board.specs.FenText.{written}
use Rattle.dw_moves.specs.Moves.{Move, play}
use Rattle.dw_moves.specs.Order.{Listed}
use Rattle.dw_notation.specs.Text.{IsLineText, text_among}
use Rattle.dw_notation.specs.declared.problems.ProblemFault.{ProblemFault}
use Rattle.dw_solve.specs.Lines.{Lines}
use Rattle.dw_list.specs.LineStack.{LineStack, AreToCome}
use Rattle.dw_list.specs.StackWalk.{Gives, GivesNone}
use Rattle.dw_report.specs.ListedText.{AreLineTexts}
use Rattle.dw_report.specs.JsonRows.{refused_row}
use Rattle.dw_report.specs.Request.{writes_rows}
use Rattle.dw_report.specs.declared.settings.Command.{Command}

-- the text of a line of play and a line feed
abbrev pub IsRow : Geometry → Placement → List Move → List ℕ → Type 0
IsRow g p l text = (line : List ℕ) × IsLineText g p l line × (text ≡ line ++ codes "\n")

-- of the lines still to come these were given, and this is the text of their rows
pub record RowsOf (g : Geometry) (p : Placement) (start now : LineStack) (count : ℕ) (text : List ℕ) : Type 0 where
  pub given : List (List Move)
  pub gives : Gives g start now given
  pub many : length given ≡ count
  pub are : AreLineTexts g p given text

-- a list ends with this element
abbrev pub EndsWith : {X : Type 0} → List X → X → Type 0
EndsWith {X} list last = (earlier : List X) × (list ≡ earlier ++ last ∷ [])

-- the rows of some of the lines still to come, at most this number
pub record SomeRows (g : Geometry) (p : Placement) (start : LineStack) (room : ℕ) (text : List ℕ) : Type 0 where
  pub now : LineStack
  pub count : ℕ
  pub few : count ≤ room
  pub rows : RowsOf g p start now count text

-- the rows of so many of the lines still to come, and the last of these lines; if there is none, no line is left
pub record TakesRows (g : Geometry) (p : Placement) (start now : LineStack) (room count : ℕ) (last : List Move)
    (text : List ℕ) : Type 0 where
  pub few : count ≤ room
  pub rows : RowsOf g p start now count text
  pub ends : 1 ≤ count → EndsWith rows.given last
  pub none : count ≡ 0 → GivesNone g start now

-- a lister stands before the lines of a position within n moves, and has given none
pub record StandsBefore (g : Geometry) (p : Placement) (n : ℕ) (stack : LineStack) : Type 0 where
  pub position : stack.position ≡ p
  pub moves : stack.moves ≡ n
  pub to_come : (lines : List (List Move)) → Lines g p n lines ↔ AreToCome g stack lines

-- a lister has lines of a position to come, and has given none of them
pub record HasLines (g : Geometry) (p : Placement) (stack : LineStack) : Type 0 where
  pub position : stack.position ≡ p
  pub lines : List (List Move)
  pub to_come : AreToCome g stack lines

-- the last line of a list of moves: their number, and the number of pieces that each of them takes
abbrev pub count_line : ℕ → ℕ → List ℕ
count_line moves taken = codes "moves " ++ decimal moves ++ codes " taking " ++ decimal taken ++ codes "\n"

-- the refusal of a list of moves that is no line, with the place at which it leaves all lines
abbrev pub refused_line : ℕ → List ℕ
refused_line place = codes "refused token: 1 not a line at " ++ decimal place ++ codes "\n"

-- the text of a legal move, and the position after it
abbrev pub move_pair : Geometry → Placement → List Listed → Listed → List ℕ × List ℕ
move_pair g p list l = (text_among list l, written g (play g p l.step))

-- the text after the heading of a refused problem: its row, or nothing, since its first line says why
abbrev pub refused_text : Command → (number : ℕ) → ProblemFault → List ℕ
refused_text command number fault = if writes_rows command then refused_row number fault else []

-- lines have tokens on boards of 10 and 8 rows
abbrev pub has_tokens : Geometry → Bool
has_tokens g = (g.rows == 10) || (g.rows == 8)
