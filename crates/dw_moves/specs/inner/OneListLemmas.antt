-- Ascending lists: one for each set of members.
use Rattle.std.proofs.Common.{◌≡◌, List, [], ◌∷◌, refl, sym, ◌∙◌, subst, inl, inr}
use Rattle.dw_board.specs.Lists.{Member}
use Rattle.dw_moves.specs.Order.{IsAscending, IsListOf}

-- two ascending lists with the same members are one
pub ascending_only : {X : Type 0} (R : X → X → Type 0) → ((x y : X) → R x y → R y x → ⊥) → (xs ys : List X)
    → IsAscending R xs → IsAscending R ys → ((z : X) → Member z xs → Member z ys)
    → ((z : X) → Member z ys → Member z xs) → xs ≡ ys
ascending_only R asym [] [] h k to back = refl
ascending_only R asym [] (y ∷ ys) h k to back = absurd (back y (inl refl))
ascending_only R asym (x ∷ xs) [] h k to back = absurd (to x (inl refl))
ascending_only {X} R asym (x ∷ xs) (y ∷ ys) h k to back =
    let heads : x ≡ y = elim (to x (inl refl)) [
      | inl e ↦ e
      | inr m ↦ elim (back y (inl refl)) [ inl e ↦ sym e | inr n ↦ absurd (asym x y (h.0 y n) (k.0 x m)) ]
    ] in
    let to' : (z : X) → Member z xs → Member z ys = λ z m. elim (to z (inr m)) [
      | inl e ↦ let same : z ≡ x = e ∙ sym heads in absurd (let r = subst (R x) same (h.0 z m) in asym x x r r)
      | inr n ↦ n
    ] in
    let back' : (z : X) → Member z ys → Member z xs = λ z m. elim (back z (inr m)) [
      | inl e ↦ let same : z ≡ y = e ∙ heads in absurd (let r = subst (R y) same (k.0 z m) in asym y y r r)
      | inr n ↦ n
    ] in
    let tails : xs ≡ ys = ascending_only R asym xs ys h.1 k.1 to' back' in
    cc

pub list_only : {X : Type 0} (R : X → X → Type 0) (P : X → Type 0) → ((x y : X) → R x y → R y x → ⊥) → (xs ys : List X)
    → IsListOf R P xs → IsListOf R P ys → xs ≡ ys
list_only R P asym xs ys h k = ascending_only R asym xs ys h.ascending k.ascending
    (λ z m. (k.exactly z).1 ((h.exactly z).0 m)) (λ z m. (h.exactly z).1 ((k.exactly z).0 m))
