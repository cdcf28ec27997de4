-- Ways along given moves.
use Rattle.std.specs.Prelude.{◌≡◌, ℕ, List, reverse}
use Rattle.dw_board.specs.Geometry.{Geometry}
use Rattle.dw_board.specs.Placement.{Placement}
use Rattle.dw_moves.specs.Moves.{Move}
use Rattle.dw_solve.specs.Lines.{Line, Lines}
use Rattle.dw_list.specs.Places.{After}
use Rattle.dw_list.specs.LineStack.{LineStack, AreToCome}

-- a list of moves is a line, and the lines after it are those still to come of a stack
pub record IsAlong (g : Geometry) (p : Placement) (n : ℕ) (l : List Move) (s : LineStack) : Type 0 where
  pub position : s.position ≡ p
  pub moves : s.moves ≡ n
  pub line : Line g p n l
  pub stands : reverse s.line ≡ l
  pub rest : (lines : List (List Move)) → Lines g p n lines →
      (rest : List (List Move)) × After lines l rest × AreToCome g s rest
