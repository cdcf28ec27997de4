-- Ascending lists of exactly what something holds of.
use Rattle.std.proofs.Common.{◌≡◌, ℕ, ◌<◌, zero, suc, List, [], ◌∷◌, ◌++◌, length, map, take, drop, get_or, refl, sym}
use Rattle.std.proofs.Common.{ap, ◌∙◌, subst, ◌⊎◌, inl, inr, arith}
use Rattle.dw_board.specs.Lists.{Member}
use Rattle.dw_moves.specs.Order.{IsAscending, IsListOf}
use Rattle.dw_moves.specs.inner.MemberLemmas.{mem_left, mem_right, mem_cases, mem_map, mem_map_back}

-- an ascending list in two parts
pub ascending_parts : {X : Type 0} (R : X → X → Type 0) (xs ys : List X) → IsAscending R (xs ++ ys)
    → IsAscending R ys × ((x y : X) → Member x xs → Member y ys → R x y)
ascending_parts R [] ys a = (a, λ x y m n. absurd m)
ascending_parts R (x ∷ xs) ys a =
    let rest = ascending_parts R xs ys a.1 in (
      rest.0,
      λ z y m n. elim m [
        | inl e ↦ subst (λ w. R w y) (sym e) (a.0 y (mem_right y xs ys n))
        | inr k ↦ rest.1 z y k n
      ],
    )

ascending_append : {X : Type 0} (R : X → X → Type 0) (xs ys : List X) → IsAscending R xs → IsAscending R ys
    → ((x y : X) → Member x xs → Member y ys → R x y) → IsAscending R (xs ++ ys)
ascending_append R [] ys a c h = c
ascending_append R (x ∷ xs) ys a c h = (
  (λ y m. elim (mem_cases y xs ys m) [ inl l ↦ a.0 y l | inr r ↦ h x y (inl refl) r ]),
  ascending_append R xs ys a.1 c (λ z y m n. h z y (inr m) n),
)

ascending_map : {X Y : Type 0} (R : X → X → Type 0) (S : Y → Y → Type 0) (f : X → Y) (xs : List X)
    → ((x y : X) → R x y → S (f x) (f y)) → IsAscending R xs → IsAscending S (map f xs)
ascending_map R S f [] h a = tt
ascending_map R S f (x ∷ xs) h a = (
  (λ y m. let k = mem_map_back f y xs m in subst (S (f x)) (sym k.2) (h x k.0 (a.0 k.0 k.1))),
  ascending_map R S f xs h a.1,
)

-- no element
pub none_listed : {X : Type 0} (R : X → X → Type 0) (P : X → Type 0) → ((x : X) → P x → ⊥) → IsListOf R P []
none_listed R P none = record { ascending = tt; exactly = λ x. ((λ m. absurd m), λ h. none x h) }

-- one element
pub one_listed : {X : Type 0} (R : X → X → Type 0) (P : X → Type 0) (x : X) → P x → ((y : X) → P y → y ≡ x)
    → IsListOf R P (x ∷ [])
one_listed R P x here only = record {
  ascending = ((λ y m. absurd m), tt);
  exactly = λ y. ((λ m. elim m [ inl e ↦ subst P (sym e) here | inr n ↦ absurd n ]), λ h. inl (only y h));
}

-- the same elements, said otherwise
pub listed_as : {X : Type 0} (R : X → X → Type 0) (P Q : X → Type 0) (xs : List X) → ((x : X) → P x → Q x)
    → ((x : X) → Q x → P x) → IsListOf R P xs → IsListOf R Q xs
listed_as R P Q xs to back h = record {
  ascending = h.ascending;
  exactly = λ x. ((λ m. to x ((h.exactly x).0 m)), λ q. (h.exactly x).1 (back x q));
}

-- those of a list in order of which something holds
pub listed_where : {X : Type 0} (R : X → X → Type 0) (Q P : X → Type 0) → ((x : X) → P x ⊎ (P x → ⊥)) → (xs : List X)
    → IsListOf R Q xs → (ys : List X) × IsListOf R (λ x. Q x × P x) ys
listed_where {X} R Q P which xs all = let f = chosen xs all.ascending in (
  f.0,
  record {
    ascending = f.1;
    exactly = λ x. (
      (λ m. let k = (f.2 x).0 m in ((all.exactly x).0 k.0, k.1)),
      (λ h. (f.2 x).1 ((all.exactly x).1 h.0, h.1)),
    );
  },
) where
  chosen : (zs : List X) → IsAscending R zs → (ys : List X) × IsAscending R ys
      × ((x : X) → (Member x ys → Member x zs × P x) × (Member x zs × P x → Member x ys))
  chosen [] a = ([], tt, λ x. ((λ m. absurd m), (λ h. absurd h.0)))
  chosen (z ∷ zs) a =
      let rest = chosen zs a.1 in
      elim (which z) [
        | inl h ↦ (
          z ∷ rest.0,
          ((λ y m. a.0 y ((rest.2 y).0 m).0), rest.1),
          λ x. (
            (λ m. elim m [ inl e ↦ (inl e, subst P (sym e) h) | inr k ↦ let r = (rest.2 x).0 k in (inr r.0, r.1) ]),
            (λ k. elim k.0 [ inl e ↦ inl e | inr m ↦ inr ((rest.2 x).1 (m, k.1)) ]),
          ),
        )
        | inr no_such ↦ (
          rest.0,
          rest.1,
          λ x. (
            (λ m. let r = (rest.2 x).0 m in (inr r.0, r.1)),
            (λ k. elim k.0 [ inl e ↦ absurd (no_such (subst P e k.1)) | inr m ↦ (rest.2 x).1 (m, k.1) ]),
          ),
        )
      ]

-- one list after another
pub listed_then : {X : Type 0} (R : X → X → Type 0) (P Q S : X → Type 0) (xs ys : List X)
    → ((x y : X) → P x → Q y → R x y) → ((z : X) → P z → S z) → ((z : X) → Q z → S z) → ((z : X) → S z → P z ⊎ Q z)
    → IsListOf R P xs → IsListOf R Q ys → IsListOf R S (xs ++ ys)
listed_then R P Q S xs ys between left right either h k = record {
  ascending = ascending_append R xs ys h.ascending k.ascending
      (λ x y m n. between x y ((h.exactly x).0 m) ((k.exactly y).0 n));
  exactly = λ z. (
    (λ m. elim (mem_cases z xs ys m) [ inl l ↦ left z ((h.exactly z).0 l) | inr r ↦ right z ((k.exactly z).0 r) ]),
    (λ s. elim (either z s) [
      | inl p ↦ mem_left z xs ys ((h.exactly z).1 p)
      | inr q ↦ mem_right z xs ys ((k.exactly z).1 q)
    ]),
  );
}

-- each element made into another
pub listed_map : {X Y : Type 0} (R : X → X → Type 0) (S : Y → Y → Type 0) (P : X → Type 0) (Q : Y → Type 0) (f : X
    → Y) (xs : List X) → ((x y : X) → R x y → S (f x) (f y)) → ((x : X) → P x → Q (f x))
    → ((y : Y) → Q y → (x : X) × P x × (y ≡ f x)) → IsListOf R P xs → IsListOf S Q (map f xs)
listed_map R S P Q f xs order to back h = record {
  ascending = ascending_map R S f xs order h.ascending;
  exactly = λ y. (
    (λ m. let k = mem_map_back f y xs m in subst Q (sym k.2) (to k.0 ((h.exactly k.0).0 k.1))),
    (λ q. let k = back y q in subst (λ z. Member z (map f xs)) (sym k.2) (mem_map f k.0 xs ((h.exactly k.0).1 k.1))),
  );
}

-- the element that comes before all others is the first, and the others are the rest
pub first_listed : {X : Type 0} (R : X → X → Type 0) (P Q : X → Type 0) → ((x y : X) → R x y → R y x → ⊥)
    → (x : X) (xs : List X) → P x → ((y : X) → Q y → P y) → ((y : X) → P y → (y ≡ x) ⊎ Q y) → ((y : X) → Q y → R x y)
    → IsListOf R P xs → (rest : List X) × (xs ≡ x ∷ rest) × IsListOf R Q rest
first_listed R P Q asym x [] here to either least h = absurd ((h.exactly x).1 here)
first_listed {X} R P Q asym x (y ∷ ys) here to either least h =
    let apart : Q x → ⊥ = λ q. let r = least x q in asym x x r r in
    let head : y ≡ x = elim (either y ((h.exactly y).0 (inl refl))) [
      | inl e ↦ e
      | inr q ↦ elim ((h.exactly x).1 here) [
        | inl e ↦ sym e
        | inr m ↦ absurd (asym x y (least y q) (h.ascending.0 x m))
      ]
    ] in (
      ys,
      (λ i. head i ∷ ys),
      record {
        ascending = h.ascending.1;
        exactly = λ z. (
          (λ m. elim (either z ((h.exactly z).0 (inr m))) [
            | inl e ↦ absurd (let r : R y y = subst (R y) (e ∙ sym head) (h.ascending.0 z m) in asym y y r r)
            | inr q ↦ q
          ]),
          (λ q. elim ((h.exactly z).1 (to z q)) [
            | inl e ↦ absurd (apart (subst Q (e ∙ head) q))
            | inr m ↦ m
          ]),
        );
      },
    )

-- a list in three parts at one of its elements
pub at_item : {V X : Type 0} (f : V → X) (xs : List V) (i : ℕ) (x : V) → i < length xs → x ≡ get_or xs i x
    → (map f xs ≡ map f (take i xs) ++ f x ∷ map f (drop (suc i) xs))
    × (map f (take (suc i) xs) ≡ map f (take i xs) ++ f x ∷ [])
at_item f [] i x low e = absurd (omega arith)
at_item f (y ∷ xs) zero x low e = (ap (λ z. f z ∷ map f xs) (sym e), ap (λ z. f z ∷ []) (sym e))
at_item f (y ∷ xs) (suc i) x low e = let h = at_item f xs i x (omega arith) e in
    (ap (λ z. f y ∷ z) h.0, ap (λ z. f y ∷ z) h.1)
