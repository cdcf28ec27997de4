use Rattle.std.proofs.Common.{◌≡◌, ◌++◌, map, take}
use Rattle.std.specs.List.{flat_map}
use Rattle.dw_mend.specs.Changes.{set}
use Rattle.dw_mend.specs.Telling.{told}
use Rattle.dw_mend.proofs.neighbours.push_set.Given as goal

abbrev pub invariant-squares : goal.invariant-squares
invariant-squares g l = map told l.list.items ≡ map told l.fn.list.items ++ flat_map (λ s. map (set s) l.squares) (take
    l.square-index l.squares)
