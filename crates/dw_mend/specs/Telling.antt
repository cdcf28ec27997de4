-- Changes and neighbours of the code, as values of the definitions.
use Rattle.dw_board.specs.Placement.{Placement}
use Rattle.dw_mend.specs.Changes.{Change, without, with_piece, set, made}
use Rattle.dw_mend.specs.declared.change.Change as changes
use Rattle.dw_mend.specs.declared.change.Change.TheVariants.{Without, With, Set, Made}
use Rattle.dw_mend.specs.declared.neighbours.Neighbour as neighbours

-- the value of a change
abbrev pub told : {B : Type 0} → changes.Change B → Change
told (Without square) = without square
told (With square piece) = with_piece square piece
told (Set from to) = set from to
told (Made square kind) = made square kind

-- a neighbour, with the change that makes it
abbrev pub told_by : {B : Type 0} → neighbours.Neighbour B → Change × Placement
told_by n = (told n.change, n.position)
