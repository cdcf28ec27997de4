-- Texts that are joined with marks between them.
use Rattle.std.proofs.Common.{◌≡◌, ◌++◌, ◌∷◌, ◌∙◌, ap, sym, refl, ℕ, List, [], flat_map, append_assoc, append-nil}
use Rattle.std.specs.List.{join_by}
use Rattle.std.proofs.lemmas.Grind.{flat_map-append}

-- the mark before one more text
abbrev pub before_next : {X : Type 0} → (sep : List ℕ) → List X → List ℕ
before_next sep [] = []
before_next sep (x ∷ xs) = sep

-- one more text
pub join_more : {X : Type 0} (f : X → List ℕ) (sep : List ℕ) (xs : List X) (y : X)
    → join_by f sep (xs ++ y ∷ []) ≡ join_by f sep xs ++ (before_next sep xs ++ f y)
join_more f sep [] y = append-nil (f y)
join_more f sep (x ∷ xs) y =
    let rest = λ (z : _). sep ++ f z in
    ap (λ t. f x ++ t) (flat_map-append rest xs (y ∷ []) ∙ ap (λ t. flat_map rest xs ++ t) (append-nil (sep ++ f y)))
    ∙ sym (append_assoc (f x) (flat_map rest xs) (sep ++ f y))

-- the mark before the one after that
pub before_more : {X : Type 0} (sep : List ℕ) (xs : List X) (y : X) → before_next sep (xs ++ y ∷ []) ≡ sep
before_more sep [] y = refl
before_more sep (x ∷ xs) y = refl
