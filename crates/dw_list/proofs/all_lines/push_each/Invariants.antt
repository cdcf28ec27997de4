use Rattle.std.proofs.Common.{◌≡◌, ◌++◌, ◌∷◌, map, take}
use Rattle.dw_list.proofs.all_lines.push_each.Given as goal

abbrev pub invariant-lists : goal.invariant-lists
invariant-lists g l = map (λ list. list.items) l.lists.items ≡ map (λ list. list.items) l.initial.lists.items
    ++ map (λ list. l.mv ∷ list.items) (take l.rest-index l.behind)
