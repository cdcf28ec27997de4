use Rattle.std.proofs.Common.{◌≡◌, ◌++◌, map, take}
use Rattle.dw_mend.specs.Changes.{set}
use Rattle.dw_mend.specs.Telling.{told}
use Rattle.dw_mend.proofs.neighbours.push_set_from.Given as goal

abbrev pub invariant-squares : goal.invariant-squares
invariant-squares g l = map told l.list.items ≡ map told l.fn.list.items ++ map (set l.from) (take l.to-index l.squares)
