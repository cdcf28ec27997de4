-- What stands at a place of a list that is longer by one, or in which one place is set.
use Rattle.std.proofs.Common.{◌≡◌, ℕ, zero, suc, List, [], ◌∷◌, ◌++◌, length, Some, None, ◌⊎◌, inl, inr, refl, ap, set}
use Rattle.std.proofs.Common.{arith}
use Rattle.std.specs.List.{slice_get}

pub absent : {A B : Type 0} → (x : A) → None ≡ Some x → B
absent x e = cc

pub same : {A : Type 0} → (x y : A) → Some x ≡ Some y → x ≡ y
same x y e = cc

-- in a longer list, what stood there before, or the new element at the end
pub got_new : {A : Type 0} → (xs : List A) (y x : A) (k : ℕ) → slice_get (xs ++ y ∷ []) k ≡ Some x
    → (slice_get xs k ≡ Some x) ⊎ ((k ≡ length xs) × (y ≡ x))
got_new [] y x zero e = inr (refl, same y x e)
got_new [] y x (suc k) e = absent x e
got_new (z ∷ xs) y x zero e = inl e
got_new (z ∷ xs) y x (suc k) e = elim (got_new xs y x k e) [
  | inl old ↦ inl old
  | inr new ↦ inr (ap suc new.0, new.1)
]

pub got_old : {A : Type 0} → (xs ys : List A) (x : A) (k : ℕ) → slice_get xs k ≡ Some x
    → slice_get (xs ++ ys) k ≡ Some x
got_old [] ys x k e = absent x e
got_old (z ∷ xs) ys x zero e = e
got_old (z ∷ xs) ys x (suc k) e = got_old xs ys x k e

pub got_last : {A : Type 0} → (xs : List A) (y : A) → slice_get (xs ++ y ∷ []) (length xs) ≡ Some y
got_last [] y = refl
got_last (z ∷ xs) y = got_last xs y

-- with one place set, what was set, or at any other place what stood there before
pub got_set : {A : Type 0} → (xs : List A) (i : ℕ) (y x : A) (k : ℕ) → slice_get (set xs i y) k ≡ Some x
    → ((k ≡ i) × (y ≡ x)) ⊎ ((k ≡ i → ⊥) × (slice_get xs k ≡ Some x))
got_set [] i y x k e = absent x e
got_set (z ∷ xs) zero y x zero e = inl (refl, same y x e)
got_set (z ∷ xs) zero y x (suc k) e = inr ((λ h. omega (arith, h)), e)
got_set (z ∷ xs) (suc i) y x zero e = inr ((λ h. omega (arith, h)), e)
got_set (z ∷ xs) (suc i) y x (suc k) e = elim (got_set xs i y x k e) [
  | inl set_here ↦ inl (ap suc set_here.0, set_here.1)
  | inr other ↦ inr ((λ h. other.0 (omega (arith, h))), other.1)
]
