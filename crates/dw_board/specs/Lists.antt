-- Membership in lists.
use Rattle.std.specs.Prelude.{◌≡◌, ◌⊎◌, List, [], ◌∷◌}

-- x stands in a list
abbrev pub Member : {X : Type 0} → X → List X → Type 0
Member x [] = ⊥
Member x (y ∷ ys) = (x ≡ y) ⊎ Member x ys

-- nothing stands twice in a list
abbrev pub NoRepeat : {X : Type 0} → List X → Type 0
NoRepeat [] = Unit {0}
NoRepeat (x ∷ xs) = (Member x xs → ⊥) × NoRepeat xs
