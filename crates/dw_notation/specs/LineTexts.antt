-- The text of a line, as contracts see it.
use Rattle.std.specs.Prelude.{List}
use Rattle.dw_board.specs.Placement.{Placement}
use Rattle.dw_moves.specs.Moves.{Move}

-- the position from which a line starts, and its moves
pub record LineFrom : Type 0 where
  pub start : Placement
  pub moves : List Move
