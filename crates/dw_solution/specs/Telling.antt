-- Moves in their places, as values of the definitions.
use Rattle.dw_solution.specs.Placed.{Placed}
use Rattle.dw_solution.specs.declared.placed.PlacedMove.{PlacedMove}

-- a move in its place
abbrev pub placed_by : {B : Type 0} → PlacedMove B → Placed
placed_by one = record { depth = one.depth; before = one.before; move = one.mv }
