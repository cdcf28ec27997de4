use Rattle.std.proofs.Common.{◌≡◌, map, take}
use Rattle.dw_first_moves.proofs.first_moves.all_moves.Given as goal

abbrev pub invariant-list : goal.invariant-list
invariant-list g l = l.moves.items ≡ map (λ item. item.step) (take l.item-index l.item-items)
