-- Ascending lists, made by insertion under a key.
use Rattle.std.proofs.Common.{◌≡◌, ℕ, List, [], ◌∷◌, refl, sym, ap, ◌∙◌, subst, ◌⊎◌, inl, inr}
use Rattle.dw_board.specs.Lists.{Member}
use Rattle.dw_moves.specs.Order.{LexLess, IsAscending}
use Rattle.dw_moves.specs.inner.LexLemmas.{lex_trans, lex_cases}

-- the order by a key
abbrev pub ByKey : {X : Type 0} → (X → List ℕ) → X → X → Type 0
ByKey key x y = LexLess (key x) (key y)

-- x put into its place, unless an element has its key
abbrev pub place : {X : Type 0} (key : X → List ℕ) → X → List X → List X
place key x [] = x ∷ []
place key x (y ∷ ys) = elim (lex_cases (key x) (key y)) [
  | inl same ↦ y ∷ ys
  | inr (inl less) ↦ x ∷ y ∷ ys
  | inr (inr more) ↦ y ∷ place key x ys
]

abbrev pub arranged : {X : Type 0} (key : X → List ℕ) → List X → List X
arranged key [] = []
arranged key (x ∷ xs) = place key x (arranged key xs)

-- what place gives, by the case that it took
record Placed {X : Type 0} (key : X → List ℕ) (x : X) (ys zs : List X) : Type 0 where
  from : (z : X) → Member z zs → (z ≡ x) ⊎ Member z ys
  kept : (z : X) → Member z ys → Member z zs
  here : (z : X) × Member z zs × (key z ≡ key x)
  order : IsAscending (ByKey key) ys → IsAscending (ByKey key) zs

placed : {X : Type 0} (key : X → List ℕ) (x : X) (ys : List X) → Placed key x ys (place key x ys)
placed key x [] = record {
  from = λ z m. m;
  kept = λ z m. absurd m;
  here = (x, inl refl, refl);
  order = λ a. ((λ y m. absurd m), tt);
}
placed {X} key x (y ∷ ys) = elim (lex_cases (key x) (key y)) as (λ c. Placed key x (y ∷ ys) (elim c [
  | inl same ↦ y ∷ ys
  | inr (inl less) ↦ x ∷ y ∷ ys
  | inr (inr more) ↦ y ∷ place key x ys
])) [
  | inl same ↦ record { from = λ z m. inr m; kept = λ z m. m; here = (y, inl refl, sym same); order = λ a. a }
  | inr (inl less) ↦ record {
    from = λ z m. m;
    kept = λ z m. inr m;
    here = (x, inl refl, refl);
    order = λ a. (
      (λ z m. elim m [
        | inl e ↦ subst (λ (w : X). LexLess (key x) (key w)) (sym e) less
        | inr n ↦ lex_trans (key x) (key y) (key z) less (a.0 z n)
      ]),
      a,
    );
  }
  | inr (inr more) ↦
      let h = placed key x ys in
      record {
        from = λ z m. elim m [
          | inl e ↦ inr (inl e)
          | inr n ↦ elim (h.from z n) [
            | inl e ↦ inl e
            | inr k ↦
                inr (inr k)
          ]
        ];
        kept = λ z m. elim m [ inl e ↦ inl e | inr n ↦ inr (h.kept z n) ];
        here = (h.here.0, inr h.here.1, h.here.2);
        order = λ a. (
          (λ z m. elim (h.from z m) [
            | inl e ↦ subst (λ (w : X). LexLess (key y) (key w)) (sym e) more
            | inr k ↦ a.0 z k
          ]),
          h.order a.1,
        );
      }
]

pub arranged_ascending : {X : Type 0} (key : X → List ℕ) (xs : List X) → IsAscending (ByKey key) (arranged key xs)
arranged_ascending key [] = tt
arranged_ascending key (x ∷ xs) = (placed key x (arranged key xs)).order (arranged_ascending key xs)

pub arranged_from : {X : Type 0} (key : X → List ℕ) (xs : List X) (z : X) → Member z (arranged key xs) → Member z xs
arranged_from key [] z m = m
arranged_from key (x ∷ xs) z m = elim ((placed key x (arranged key xs)).from z m) [
  | inl e ↦ inl e
  | inr n ↦
      inr (arranged_from key xs z n)
]

pub arranged_has : {X : Type 0} (key : X → List ℕ) (xs : List X) (z : X) → Member z xs
    → (y : X) × Member y (arranged key xs) × (key y ≡ key z)
arranged_has key [] z m = absurd m
arranged_has key (x ∷ xs) z (inl e) = let h = (placed key x (arranged key xs)).here in (h.0, h.1, h.2 ∙ ap key (sym e))
arranged_has key (x ∷ xs) z (inr m) = let k = arranged_has key xs z m in
    (k.0, (placed key x (arranged key xs)).kept k.0 k.1, k.2)

-- another order that holds where the first does
pub ascending_by : {X : Type 0} (R S : X → X → Type 0) (xs : List X) → ((x y : X) → Member x xs → Member y xs → R x y
    → S x y) → IsAscending R xs → IsAscending S xs
ascending_by R S [] h a = tt
ascending_by R S (x ∷ xs) h a = (
  (λ y m. h x y (inl refl) (inr m) (a.0 y m)),
  ascending_by R S xs (λ y z m n. h y z (inr m) (inr n)) a.1,
)
