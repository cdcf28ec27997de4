-- How the lines of a tree are stored as a value.
use Rattle.std.specs.Prelude.{List}
use Rattle.std.specs.Coded.{Coded, coded_list}
use Rattle.dw_moves.specs.Moves.{Move, move_code}

-- Sealed: how lines are stored, of which no clause says anything.
abbrev pub lines_code : Coded (List (List Move))
lines_code = coded_list (coded_list move_code)
