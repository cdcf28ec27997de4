-- The boards meet the laws.
use Rattle.std.proofs.Common.{refl, lit≤, lit<}
use Rattle.dw_board.specs.Geometry.{IsBoard, ShiftsAreSteps}
use Rattle.dw_board.specs.Boards.{ten, eight}
use Rattle.dw_board.specs.inner.GeometryLemmas.{shifts_are_steps}
use Rattle.dw_board.specs.SquareSet.{WholeBoard}
use Rattle.dw_board.specs.inner.SquareSetLemmas.{whole_board}

pub ten_is_board : IsBoard ten
ten_is_board = record {
  even = refl;
  low = lit≤ tt;
  high = lit≤ tt;
  side_low = lit≤ tt;
  side_high = lit≤ tt;
  side_fits = lit≤ tt;
  squares_high = lit≤ tt;
}

pub eight_is_board : IsBoard eight
eight_is_board = record {
  even = refl;
  low = lit≤ tt;
  high = lit≤ tt;
  side_low = lit≤ tt;
  side_high = lit≤ tt;
  side_fits = lit≤ tt;
  squares_high = lit≤ tt;
}

pub ten_shifts : ShiftsAreSteps ten
ten_shifts = shifts_are_steps ten ten_is_board

pub eight_shifts : ShiftsAreSteps eight
eight_shifts = shifts_are_steps eight eight_is_board

pub ten_word : WholeBoard ten 0x3ff7feffdffbff
ten_word = whole_board ten ten_is_board 0x3ff7feffdffbff (lit< tt) refl

pub eight_word : WholeBoard eight 0x7fbfdfeff
eight_word = whole_board eight eight_is_board 0x7fbfdfeff (lit< tt) refl
