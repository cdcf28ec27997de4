-- The first lines of a forced win.
use Rattle.std.specs.Prelude.{ℕ, Bool, ◌||◌, List, length, nat_lt}
use Rattle.dw_board.specs.Placement.{Placement}
use Rattle.dw_moves.specs.Moves.{Move}

-- the first lines from a position, and whether there are more
pub record LinesFrom : Type 0 where
  pub start : Placement
  pub lines : List (List Move)
  pub more : Bool

-- whether there are more lines than the first ones of this number
abbrev pub is_cut : LinesFrom → (many : ℕ) → Bool
is_cut first many = nat_lt many (length first.lines) || first.more
