-- A small board, and that it meets the laws of boards.
use Rattle.std.proofs.Common.{refl, lit≤, lit<}
use Rattle.dw_board.specs.Geometry.{Geometry, IsBoard, ShiftsAreSteps}
use Rattle.dw_board.specs.inner.GeometryLemmas.{shifts_are_steps}
use Rattle.dw_board.specs.SquareSet.{WholeBoard}
use Rattle.dw_board.specs.inner.SquareSetLemmas.{whole_board}

-- six rows of three squares, six pieces a side
abbrev pub six : Geometry
six = record { rows = 6; per_row = 3; side = 6 }

pub six_is_board : IsBoard six
six_is_board = record {
  even = refl;
  low = lit≤ tt;
  high = lit≤ tt;
  side_low = lit≤ tt;
  side_high = lit≤ tt;
  side_fits = lit≤ tt;
  squares_high = lit≤ tt;
}

pub six_shifts : ShiftsAreSteps six
six_shifts = shifts_are_steps six six_is_board

pub six_word : WholeBoard six 0xfdfbf
six_word = whole_board six six_is_board 0xfdfbf (lit< tt) refl
