use Rattle.std.proofs.Common.{◌-◌, length}
use Rattle.dw_notation.proofs.LineTextLemmas.{OthersTo}
use Rattle.dw_notation.proofs.move_text.place_of.Given as goal

abbrev pub invariant-places : goal.invariant-places
invariant-places g l = OthersTo l.list l.mv l.place

abbrev pub decreases-places : goal.decreases-places
decreases-places g l = length l.list - l.place
