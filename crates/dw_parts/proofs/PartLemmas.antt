-- A part of a list, item by item.
use Rattle.std.proofs.Common.{◌≡◌, ◌∙◌, ℕ, ◌+◌, ◌%◌, ◌<◌, ◌≤◌, List, [], ◌∷◌, ◌++◌, length, map, take, get_or, sym, ap}
use Rattle.std.proofs.Common.{append_assoc, append-nil}
use Rattle.std.proofs.Common.{zero, suc, arith, add-zero, length-take, inl, inr, if◌then◌else◌}
use Rattle.std.specs.Prelude.{◌==◌}
use Rattle.std.proofs.Common.{false}
use Rattle.std.proofs.Math.Nat.{mod_self, mod-eq_of_lt}
use Rattle.std.proofs.lemmas.Bool.{cases_Bool, eq-eqb, eqb-true, ne_eqb}
use Rattle.std.proofs.lemmas.Nat.{mod_below}
use Rattle.std.proofs.lemmas.List.{take_more}
use Rattle.std.proofs.Common.{subst, ◌↔◌}
use Rattle.dw_board.specs.Lists.{Member}
use Rattle.dw_parts.specs.Parts.{part_from, part_of, PartsAreTheWhole}

-- the first i + 1 items
one_more : {X : Type 0} (xs : List X) (i : ℕ) (x : X) → i < length xs → x ≡ get_or xs i x
    → take (i + 1) xs ≡ take i xs ++ x ∷ []
one_more xs i x low is = take_more xs i x low ∙ ap (λ z. take i xs ++ z ∷ []) (sym is)

part_append : {X : Type 0} (place i m : ℕ) (xs : List X) (x : X) → part_from place i m (xs ++ x ∷ [])
    ≡ part_from place i m xs ++ (if (place + length xs) % m == i % m then x ∷ [] else [])
part_append place i m [] x = ap (λ z. if z % m == i % m then x ∷ [] else []) (sym (add-zero place))
part_append place i m (y ∷ xs) x =
    let e : place + 1 + length xs ≡ place + suc (length xs) = omega arith in
    let tail = part_append (place + 1) i m xs x
    ∙ ap (λ z. part_from (place + 1) i m xs ++ (if z % m == i % m then x ∷ [] else [])) e in
    elim (cases_Bool (place % m == i % m)) [
      | inl yes' ↦ rw yes' (ap (λ z. y ∷ z) tail)
      | inr no' ↦ rw no' tail
    ]

part_next : {X : Type 0} (i m : ℕ) (xs : List X) (k : ℕ) (x : X) → k < length xs → x ≡ get_or xs k x
    → part_of i m (take (k + 1) xs)
    ≡ part_of i m (take k xs) ++ (if (k + 1) % m == i % m then x ∷ [] else [])
part_next i m xs k x low is =
    let e : 1 + length (take k xs) ≡ k + 1 = let h = length-take k xs in omega arith in
    ap (part_of i m) (one_more xs k x low is) ∙ (part_append 1 i m (take k xs) x
    ∙ ap (λ z. part_of i m (take k xs) ++ (if z % m == i % m then x ∷ [] else [])) e)

pub part_taken : {X : Type 0} (i m : ℕ) (xs now new : List X) (k : ℕ) (x : X) → k < length xs → x ≡ get_or xs k x
    → now ≡ part_of i m (take k xs) → (k + 1) % m ≡ i % m → new ≡ now ++ x ∷ [] → new ≡ part_of i m (take (k + 1) xs)
part_taken i m xs now new k x low is so_far here pushed =
    pushed ∙ (ap (λ z. z ++ x ∷ []) so_far
    ∙ sym (part_next i m xs k x low is ∙ ap (λ b. part_of i m (take k xs) ++ (if b then x ∷ [] else []))
    (eq-eqb _ _ here)))

pub part_left : {X : Type 0} (i m : ℕ) (xs now : List X) (k : ℕ) (x : X) → k < length xs → x ≡ get_or xs k x
    → now ≡ part_of i m (take k xs) → ((k + 1) % m ≡ i % m → ⊥) → now ≡ part_of i m (take (k + 1) xs)
part_left i m xs now k x low is so_far away =
    so_far ∙ sym (part_next i m xs k x low is ∙ (ap (λ b. part_of i m (take k xs) ++ (if b then x ∷ [] else []))
    (ne_eqb _ _ away) ∙ append-nil _))

-- ---- all parts together
in_part : {X : Type 0} (i m place : ℕ) (xs : List X) (x : X) → Member x (part_from place i m xs) → Member x xs
in_part i m place [] x here = here
in_part i m place (y ∷ xs) x here = elim (cases_Bool (place % m == i % m)) [
  | inl yes' ↦ elim (subst (λ b. Member x (if b then y ∷ part_from (place + 1) i m xs
      else part_from (place + 1) i m xs))
      yes' here) [
        | inl first ↦ inl first
        | inr later ↦ inr (in_part i m (place + 1) xs x later)
      ]
  | inr no' ↦ inr (in_part i m (place + 1) xs x
      (subst (λ b. Member x (if b then y ∷ part_from (place + 1) i m xs else part_from (place + 1) i m xs)) no' here))
]

some_rest : (r : ℕ) → (r == 0) ≡ false → 1 ≤ r
some_rest zero e = cc
some_rest (suc r) e = omega arith

-- the part that has a place
part_at : (m place : ℕ) → 1 ≤ m → (i : ℕ) × (1 ≤ i) × (i ≤ m) × (place % m ≡ i % m)
part_at m place some = elim (cases_Bool (place % m == 0)) [
  | inl yes' ↦ (m, some, (let e : m ≤ m = omega arith in e), eqb-true _ _ yes' ∙ sym (mod_self m))
  | inr no' ↦
      let low = mod_below place m some in (
        place % m,
        some_rest (place % m) no',
        (let e : place % m ≤ m = omega (arith, low) in e),
        sym (mod-eq_of_lt low),
      )
]

some_part : {X : Type 0} (m place : ℕ) (xs : List X) (x : X) → 1 ≤ m → Member x xs
    → (i : ℕ) × (1 ≤ i) × (i ≤ m) × Member x (part_from place i m xs)
some_part m place [] x some here = absurd here
some_part m place (y ∷ xs) x some (inl first) =
    let at = part_at m place some in (
      at.0,
      at.1,
      at.2,
      subst (λ b. Member x (if b then y ∷ part_from (place + 1) at.0 m xs
          else part_from (place + 1) at.0 m xs)) (sym (eq-eqb _ _ at.3)) (inl first),
    )
some_part m place (y ∷ xs) x some (inr later) =
    let part = some_part m (place + 1) xs x some later in (
      part.0,
      part.1,
      part.2,
      elim (cases_Bool (place % m == part.0 % m)) [
        | inl yes' ↦ subst (λ b. Member x (if b then y ∷ part_from (place + 1) part.0 m xs
            else part_from (place + 1) part.0 m xs)) (sym yes') (inr part.3)
        | inr no' ↦ subst (λ b. Member x (if b then y ∷ part_from (place + 1) part.0 m xs
            else part_from (place + 1) part.0 m xs)) (sym no') part.3
      ],
    )

pub whole : (X : Type 0) → PartsAreTheWhole X
whole X m some xs x = (some_part m 1 xs x some, λ part. in_part part.0 m 1 xs x part.3)
