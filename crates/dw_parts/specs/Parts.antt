-- Parts of a list.
use Rattle.std.specs.Prelude.{ℕ, ◌+◌, ◌%◌, ◌≤◌, ◌==◌, ◌↔◌, if◌then◌else◌, List, [], ◌∷◌}
use Rattle.dw_board.specs.Lists.{Member}

-- the items of a list whose place leaves the same remainder as i when it is divided by m; the first one has this place
abbrev pub part_from : {X : Type 0} → (place i m : ℕ) → List X → List X
part_from place i m [] = []
part_from place i m (x ∷ xs) =
    if place % m == i % m then x ∷ part_from (place + 1) i m xs else part_from (place + 1) i m xs

-- a part of a list, whose places are counted from 1
abbrev pub part_of : {X : Type 0} → (i m : ℕ) → List X → List X
part_of i m xs = part_from 1 i m xs

-- an item is in a list exactly if it is in one of its m parts
abbrev pub PartsAreTheWhole : Type 0 → Type 0
PartsAreTheWhole X = (m : ℕ) → 1 ≤ m → (xs : List X) (x : X)
    → Member x xs ↔ ((i : ℕ) × (1 ≤ i) × (i ≤ m) × Member x (part_of i m xs))
