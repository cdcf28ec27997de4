use Rattle.std.proofs.Common.{◌≡◌, ◌++◌, map, take}
use Rattle.dw_mend.specs.Changes.{without}
use Rattle.dw_mend.specs.Telling.{told}
use Rattle.dw_mend.proofs.neighbours.push_without.Given as goal

abbrev pub invariant-squares : goal.invariant-squares
invariant-squares g l = map told l.list.items ≡ map told l.fn.list.items ++ map without (take l.square-index l.squares)
