-- Pieces of a text, one after another.
use Rattle.std.proofs.Common.{◌≡◌, ℕ, List, [], ◌∷◌, ◌++◌, ap, append_assoc, append-nil, flat_map, map, refl}
use Rattle.std.specs.List.{join_by}

pub joined_3 : (a b c : List ℕ) → a ++ (b ++ (c ++ [])) ≡ a ++ b ++ c
joined_3 a b c = simp (append_assoc, append-nil)

pub joined_5 : (a b c d e : List ℕ) → a ++ (b ++ (c ++ (d ++ (e ++ [])))) ≡ a ++ b ++ c ++ d ++ e
joined_5 a b c d e = simp (append_assoc, append-nil)

pub joined_7 : (a b c d e f g : List ℕ) → a ++ (b ++ (c ++ (d ++ (e ++ (f ++ (g ++ [])))))) ≡ a ++ b ++ c ++ d ++ e ++ f
    ++ g
joined_7 a b c d e f g = simp (append_assoc, append-nil)

pub joined_9 : (a b c d e f g h i : List ℕ) → a ++ (b ++ (c ++ (d ++ (e ++ (f ++ (g ++ (h ++ (i ++ []))))))))
    ≡ a ++ b ++ c ++ d ++ e ++ f ++ g ++ h ++ i
joined_9 a b c d e f g h i = simp (append_assoc, append-nil)

-- texts that things give, joined
flat_texts : {X : Type 0} (f : X → List ℕ) (mark : List ℕ) (xs : List X)
    → flat_map (λ x. mark ++ f x) xs ≡ flat_map (λ t. mark ++ t) (map f xs)
flat_texts f mark [] = refl
flat_texts f mark (x ∷ xs) = ap (λ t. (mark ++ f x) ++ t) (flat_texts f mark xs)

pub join_texts : {X : Type 0} (f : X → List ℕ) (mark : List ℕ) (xs : List X)
    → join_by f mark xs ≡ join_by (λ t. t) mark (map f xs)
join_texts f mark [] = refl
join_texts f mark (x ∷ xs) = ap (λ t. f x ++ t) (flat_texts f mark xs)
