-- Items that each say one thing, and all that they say, place by place.
use Rattle.std.proofs.Common.{◌≡◌, ℕ, zero, suc, ◌+◌, ◌<◌, ◌≤◌, List, [], ◌∷◌, ◌++◌, length, map, take, get_or, Option}
use Rattle.std.proofs.Common.{Some, refl, sym, ap, ◌∙◌, subst, inl, inr, arith, take_all}
use Rattle.std.proofs.lemmas.List.{length-map}
use Rattle.dw_board.specs.Lists.{Member}

-- what the item at a place says: one thing, which comes next
pub record Says {A R : Type 0} (f : A → Option R) (said : List R) (i : ℕ) (x : A) : Type 0 where
  pub this : R
  pub says : f x ≡ Some this
  pub among : Member this said
  pub next : take (i + 1) said ≡ take i said ++ this ∷ []

head_same : {X : Type 0} (x y : X) (xs ys : List X) → x ∷ xs ≡ y ∷ ys → x ≡ y
head_same x y xs ys e = cc

tail_same : {X : Type 0} (x y : X) (xs ys : List X) → x ∷ xs ≡ y ∷ ys → xs ≡ ys
tail_same x y xs ys e = cc

pub says_at : {A R : Type 0} (f : A → Option R) (items : List A) (said : List R) (i : ℕ) (x : A)
    → map f items ≡ map (λ r. Some r) said → i < length items → x ≡ get_or items i x → Says f said i x
says_at f [] said i x e low is = absurd (omega arith)
says_at f (a ∷ items) [] i x e low is = cc
says_at f (a ∷ items) (r ∷ said) zero x e low is = record {
  this = r;
  says = ap f is ∙ head_same (f a) (Some r) (map f items) (map (λ r. Some r) said) e;
  among = inl refl;
  next = refl;
}
says_at f (a ∷ items) (r ∷ said) (suc i) x e low is =
    let h = says_at f items said i x (tail_same (f a) (Some r) (map f items) (map (λ r. Some r) said) e)
    (omega (arith, low)) is in
    let step : suc (i + 1) ≡ suc i + 1 = omega arith in
    record {
      this = h.this;
      says = h.says;
      among = inr h.among;
      next = subst (λ z. take z (r ∷ said) ≡ r ∷ (take i said ++ h.this ∷ [])) step (ap (λ z. r ∷ z) h.next);
    }

-- at the end all is said
pub all_said : {A R : Type 0} (f : A → Option R) (items : List A) (said : List R) (i : ℕ)
    → map f items ≡ map (λ r. Some r) said → length items ≤ i → take i said ≡ said
all_said f items said i e past =
    let many : length items ≡ length said = sym (length-map items f) ∙ (ap length e ∙ length-map said (λ r. Some r)) in
    take_all i said (omega (arith, many, past))
