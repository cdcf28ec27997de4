-- Links between nodes stay right if a new node is put behind all others and linked.
use Rattle.std.proofs.Common.{◌≡◌, ℕ, ◌+◌, ◌<◌, ◌≤◌, List, [], ◌∷◌, ◌++◌, length, Option, Some, None, ◌⊎◌, inl, inr}
use Rattle.std.proofs.Common.{refl, sym, ap, subst, ◌∙◌, arith, length-append, zero-le}
use Rattle.std.proofs.lemmas.List.{length-set}
use Rattle.std.specs.List.{slice_get}
use Rattle.std.proofs.lemmas.Option.{slice_get_within}
use Rattle.std.proofs.lemmas.Bool.{cases_lt}
use Rattle.dw_moves.specs.Moves.{Move}
use Rattle.dw_games.specs.inner.Branches.{BranchStep, IsChild, IsFirstChild, IsLastChild, IsPlace, AreLinked}
use Rattle.dw_games.specs.inner.Branches.{first_linked, next_linked}
use Rattle.dw_games.proofs.PlaceLemmas.{absent, same, got_new, got_old, got_last, got_set}

abbrev step : Option ℕ → Move → BranchStep
step p mv = record { parent = p; mv = mv }

-- these steps, and one behind them
abbrev with_step : List BranchStep → Option ℕ → Move → List BranchStep
with_step steps p mv = steps ++ step p mv ∷ []

child_within : (steps : List BranchStep) (p : Option ℕ) (k : ℕ) → IsChild steps p k → k < length steps
child_within steps p k h = slice_get_within steps k (step p h.0) h.1

child_new : (steps : List BranchStep) (p q : Option ℕ) (mv : Move) (k : ℕ) → IsChild (with_step steps p mv) q k
    → IsChild steps q k ⊎ ((k ≡ length steps) × (p ≡ q))
child_new steps p q mv k h = elim (got_new steps (step p mv) (step q h.0) k h.1) [
  | inl old ↦ inl (h.0, old)
  | inr new ↦ inr (new.0, ap (λ s. s.parent) new.1)
]

-- a first child stays the first
first_stays : (steps : List BranchStep) (p q : Option ℕ) (mv : Move) (from n : ℕ) → IsFirstChild steps q from (Some n)
    → IsFirstChild (with_step steps p mv) q from (Some n)
first_stays steps p q mv from n h = (
  h.0,
  (h.1.0, got_old steps (step p mv ∷ []) (step q h.1.0) n h.1.1),
  λ k low high child. elim (child_new steps p q mv k child) [
    | inl old ↦ h.2 k low high old
    | inr new ↦ let small : n < length steps = child_within steps q n h.1 in omega (arith, small, new.0)
  ],
)

-- where there is none, there is none still, if the new node is no child
none_stays : (steps : List BranchStep) (p q : Option ℕ) (mv : Move) (from : ℕ) → IsFirstChild steps q from None
    → (p ≡ q → ⊥) → IsFirstChild (with_step steps p mv) q from None
none_stays steps p q mv from h ne = λ k low child. elim (child_new steps p q mv k child) [
  | inl old ↦ h k low old
  | inr new ↦ ne new.1
]

-- and the new node is the first child else
first_new : (steps : List BranchStep) (p : Option ℕ) (mv : Move) (from : ℕ) → IsFirstChild steps p from None
    → from ≤ length steps → IsFirstChild (with_step steps p mv) p from (Some (length steps))
first_new steps p mv from h low = (
  low,
  (mv, got_last steps (step p mv)),
  λ k above below child. elim (child_new steps p p mv k child) [
    | inl old ↦ h k above old
    | inr new ↦ omega (arith, new.0)
  ],
)

-- a link that was right stays right, if it is one to a node, or the new node is no child
link_stays : (steps : List BranchStep) (p q : Option ℕ) (mv : Move) (from : ℕ) (r : Option ℕ) → IsFirstChild steps q
    from r → (IsFirstChild steps q from None → p ≡ q → ⊥) → IsFirstChild (with_step steps p mv) q from r
link_stays steps p q mv from (Some n) h ne = first_stays steps p q mv from n h
link_stays steps p q mv from None h ne = none_stays steps p q mv from h (ne h)

out : (steps : List BranchStep) (r : Option ℕ) → r ≡ Some (length steps) → IsPlace steps r → ⊥
out steps None e place = absent (length steps) e
out steps (Some n) e place = let here : n ≡ length steps = same _ _ e in omega (arith, place)

-- the new node has no child
no_child : (steps : List BranchStep) (p : Option ℕ) (mv : Move)
    → ((n k : ℕ) → IsChild steps (Some n) k → n < k) → IsPlace steps p
    → IsFirstChild (with_step steps p mv) (Some (length steps)) 0 None
no_child steps p mv above place = λ k low child. elim (child_new steps p (Some (length steps)) mv k child) [
  | inl old ↦ let far : length steps < k = above _ k old in
      let near : k < length steps = child_within steps _ k old in omega arith
  | inr new ↦ out steps p new.1 place
]

-- and no sibling
no_sibling : (steps : List BranchStep) (p q : Option ℕ) (mv : Move)
    → IsFirstChild (with_step steps p mv) q (length steps + 1) None
no_sibling steps p q mv = λ k low child. elim (child_new steps p q mv k child) [
  | inl old ↦ let near : k < length steps = child_within steps q k old in omega arith
  | inr new ↦ omega (arith, new.0)
]

-- ---- first children
children_of : (steps : List BranchStep) (firsts nexts : List (Option ℕ)) → AreLinked steps firsts nexts → (p : Option ℕ)
    → (mv : Move) → IsPlace steps p
    → ((k : ℕ) → IsFirstChild steps (Some k) 0 None → p ≡ Some k → ⊥)
    → (k : ℕ) (r : Option ℕ) → slice_get (firsts ++ None ∷ []) k ≡ Some r
    → IsFirstChild (with_step steps p mv) (Some k) 0 r
children_of steps firsts nexts linked p mv place ne k r e = elim (got_new firsts None r k e) [
  | inl old ↦ link_stays steps p (Some k) mv 0 r (linked.children k r old) (ne k)
  | inr new ↦
      let here : k ≡ length steps = new.0 ∙ linked.many in
      subst (λ x. IsFirstChild (with_step steps p mv) (Some k) 0 x) new.1
      (subst (λ x. IsFirstChild (with_step steps p mv) (Some x) 0 None) (sym here)
      (no_child steps p mv linked.above place))
]

-- at any place but the parent's
elsewhere : (steps : List BranchStep) (firsts nexts : List (Option ℕ)) → AreLinked steps firsts nexts → (q : ℕ) (mv :
    Move) → IsPlace steps (Some q) → (k : ℕ) (r : Option ℕ) → (k ≡ q → ⊥) → slice_get (firsts ++ None ∷ []) k ≡ Some r
    → IsFirstChild (with_step steps (Some q) mv) (Some k) 0 r
elsewhere steps firsts nexts linked q mv place k r ne e = elim (got_new firsts None r k e) [
  | inl old ↦ link_stays steps (Some q) (Some k) mv 0 r (linked.children k r old)
      (λ none e. ne (sym (same q k e)))
  | inr new ↦
      let here : k ≡ length steps = new.0 ∙ linked.many in
      subst (λ x. IsFirstChild (with_step steps (Some q) mv) (Some k) 0 x) new.1
      (subst (λ x. IsFirstChild (with_step steps (Some q) mv) (Some x) 0 None) (sym here)
      (no_child steps (Some q) mv linked.above place))
]

children_new : (steps : List BranchStep) (firsts nexts : List (Option ℕ)) → AreLinked steps firsts nexts
    → (p last : Option ℕ) (mv : Move) → IsPlace steps p → IsLastChild steps p last
    → (k : ℕ) (r : Option ℕ) → slice_get (first_linked (firsts ++ None ∷ []) last p (length steps)) k ≡ Some r
    → IsFirstChild (with_step steps p mv) (Some k) 0 r
children_new steps firsts nexts linked None None mv place is k r e =
    children_of steps firsts nexts linked None mv place (λ j none e. absent j e) k r e
children_new steps firsts nexts linked None (Some l) mv place is k r e =
    children_of steps firsts nexts linked None mv place (λ j none e. absent j e) k r e
children_new steps firsts nexts linked (Some q) (Some l) mv place is k r e =
    children_of steps firsts nexts linked (Some q) mv place
    (λ j none e. none l zero-le (subst (λ x. IsChild steps x l) e is.0)) k r e
children_new steps firsts nexts linked (Some q) None mv place is k r e =
    elim (got_set (firsts ++ None ∷ []) q (Some (length steps)) r k e) [
      | inl here ↦
          subst (λ x. IsFirstChild (with_step steps (Some q) mv) (Some k) 0 x) here.1
          (subst (λ x. IsFirstChild (with_step steps (Some q) mv) (Some x) 0 (Some (length steps))) (sym here.0)
          (first_new steps (Some q) mv 0 is zero-le))
      | inr other ↦ elsewhere steps firsts nexts linked q mv place k r other.0 other.1
    ]

-- ---- next siblings
at_end : (steps : List BranchStep) (p q : Option ℕ) (mv : Move) (k : ℕ) (r : Option ℕ) → k ≡ length steps → None ≡ r
    → IsFirstChild (with_step steps p mv) q (k + 1) r
at_end steps p q mv k r here none =
    subst (λ x. IsFirstChild (with_step steps p mv) q (k + 1) x) none
    (subst (λ x. IsFirstChild (with_step steps p mv) q (x + 1) None) (sym here) (no_sibling steps p q mv))

-- behind the child that was the last
linked_behind : (steps : List BranchStep) (p q : Option ℕ) (mv : Move) (l k : ℕ) (r : Option ℕ) (m : Move)
    → IsLastChild steps p (Some l) → k ≡ l → Some (length steps) ≡ r → slice_get steps k ≡ Some (step q m)
    → IsFirstChild (with_step steps p mv) q (k + 1) r
linked_behind steps p q mv l k r m is here link known =
    let there : slice_get steps l ≡ Some (step q m) = subst (λ x. slice_get steps x ≡ Some (step q m)) here known in
    let one : step p is.0.0 ≡ step q m = same _ _ (sym is.0.1 ∙ there) in
    let parent : p ≡ q = ap (λ s. s.parent) one in
    let inside : l < length steps = child_within steps p l is.0 in
    let first : IsFirstChild (with_step steps p mv) p (l + 1) (Some (length steps)) =
    first_new steps p mv (l + 1) is.1 (omega arith) in
    subst (λ x. IsFirstChild (with_step steps p mv) q (k + 1) x) link
    (subst (λ x. IsFirstChild (with_step steps p mv) q (x + 1) (Some (length steps))) (sym here)
    (subst (λ x. IsFirstChild (with_step steps p mv) x (l + 1) (Some (length steps))) parent first))

-- no other child of the same parent is without a next sibling
only_last : (steps : List BranchStep) (p q : Option ℕ) (l k : ℕ) (m : Move) → IsLastChild steps p (Some l) → (k ≡ l → ⊥)
    → IsFirstChild steps q (k + 1) None → p ≡ q → slice_get steps k ≡ Some (step q m) → ⊥
only_last steps p q l k m is ne none e known = elim (cases_lt k l) [
  | inl before ↦ none l (omega arith) (subst (λ x. IsChild steps x l) e is.0)
  | inr other ↦ is.1 k (omega (arith, ne)) (m, subst (λ x. slice_get steps k ≡ Some (step x m)) (sym e) known)
]

siblings_new : (steps : List BranchStep) (firsts nexts : List (Option ℕ)) → AreLinked steps firsts nexts
    → (p last : Option ℕ) (mv : Move) → IsLastChild steps p last
    → (k : ℕ) (r q : Option ℕ) (m : Move) → slice_get (next_linked (nexts ++ None ∷ []) last (length steps)) k ≡ Some r
    → slice_get (with_step steps p mv) k ≡ Some (step q m) → IsFirstChild (with_step steps p mv) q (k + 1) r
siblings_new steps firsts nexts linked p None mv is k r q m e there = elim (got_new nexts None r k e) [
  | inl old ↦ elim (got_new steps (step p mv) (step q m) k there) [
    | inl known ↦ link_stays steps p q mv (k + 1) r (linked.siblings k r q m old known)
        (λ none e. is k zero-le (m, subst (λ x. slice_get steps k ≡ Some (step x m)) (sym e) known))
    | inr new ↦ let inside : k < length nexts = slice_get_within nexts k r old in
        let no : ⊥ = omega (arith, new.0, linked.many_too) in absurd no
  ]
  | inr new ↦ at_end steps p q mv k r (new.0 ∙ linked.many_too) new.1
]
siblings_new steps firsts nexts linked p (Some l) mv is k r q m e there =
    elim (got_set (nexts ++ None ∷ []) l (Some (length steps)) r k e) [
      | inl here ↦ elim (got_new steps (step p mv) (step q m) k there) [
        | inl known ↦ linked_behind steps p q mv l k r m is here.0 here.1 known
        | inr new ↦ let inside : l < length steps = child_within steps p l is.0 in
            let no : ⊥ = omega (arith, new.0, here.0) in absurd no
      ]
      | inr other ↦ elim (got_new nexts None r k other.1) [
        | inl old ↦ elim (got_new steps (step p mv) (step q m) k there) [
          | inl known ↦ link_stays steps p q mv (k + 1) r (linked.siblings k r q m old known)
              (λ none e. only_last steps p q l k m is other.0 none e known)
          | inr new ↦ let inside : k < length nexts = slice_get_within nexts k r old in
              let no : ⊥ = omega (arith, new.0, linked.many_too) in absurd no
        ]
        | inr new ↦ at_end steps p q mv k r (new.0 ∙ linked.many_too) new.1
      ]
    ]

-- ---- all
once_new : (steps : List BranchStep) (s : BranchStep) → ((j k : ℕ) (t : BranchStep) → slice_get steps j ≡ Some t
    → slice_get steps k ≡ Some t → j ≡ k) → ((k : ℕ) → slice_get steps k ≡ Some s → ⊥)
    → (j k : ℕ) (t : BranchStep) → slice_get (steps ++ s ∷ []) j ≡ Some t → slice_get (steps ++ s ∷ []) k ≡ Some t → j ≡
    k
once_new steps s once unseen j k t a b = elim (got_new steps s t j a) [
  | inl old ↦ elim (got_new steps s t k b) [
    | inl known ↦ once j k t old known
    | inr new ↦ absurd (unseen j (subst (λ x. slice_get steps j ≡ Some x) (sym new.1) old))
  ]
  | inr new ↦ elim (got_new steps s t k b) [
    | inl known ↦ absurd (unseen k (subst (λ x. slice_get steps k ≡ Some x) (sym new.1) known))
    | inr too ↦ new.0 ∙ sym too.0
  ]
]

above_new : (steps : List BranchStep) (p : Option ℕ) (mv : Move) → IsPlace steps p
    → ((n k : ℕ) → IsChild steps (Some n) k → n < k) → (n k : ℕ) → IsChild (with_step steps p mv) (Some n) k → n < k
above_new steps p mv place above n k child = elim (child_new steps p (Some n) mv k child) [
  | inl old ↦ above n k old
  | inr new ↦ let inside : IsPlace steps (Some n) = subst (IsPlace steps) new.1 place in omega (arith, new.0, inside)
]

length_first : (firsts : List (Option ℕ)) (last p : Option ℕ) (n : ℕ)
    → length (first_linked firsts last p n) ≡ length firsts
length_first firsts (Some l) p n = refl
length_first firsts None None n = refl
length_first firsts None (Some q) n = length-set firsts q (Some n)

length_next : (nexts : List (Option ℕ)) (last : Option ℕ) (n : ℕ) → length (next_linked nexts last n) ≡ length nexts
length_next nexts None n = refl
length_next nexts (Some l) n = length-set nexts l (Some n)

longer : {A B : Type 0} (xs : List A) (ys : List B) (x : A) (y : B) → length xs ≡ length ys
    → length (xs ++ x ∷ []) ≡ length (ys ++ y ∷ [])
longer xs ys x y e = length-append xs (x ∷ []) ∙ (ap (λ n. n + 1) e ∙ sym (length-append ys (y ∷ [])))

pub linked_new : (steps : List BranchStep) (firsts nexts : List (Option ℕ)) → AreLinked steps firsts nexts
    → (p last : Option ℕ) (mv : Move) → IsPlace steps p → IsLastChild steps p last
    → ((k : ℕ) → slice_get steps k ≡ Some (step p mv) → ⊥)
    → AreLinked (with_step steps p mv) (first_linked (firsts ++ None ∷ []) last p (length steps))
    (next_linked (nexts ++ None ∷ []) last (length steps))
linked_new steps firsts nexts linked p last mv place is unseen = record {
  many = length_first (firsts ++ None ∷ []) last p (length steps)
      ∙ longer firsts steps None (step p mv) linked.many;
  many_too = length_next (nexts ++ None ∷ []) last (length steps)
      ∙ longer nexts steps None (step p mv) linked.many_too;
  above = above_new steps p mv place linked.above;
  once = once_new steps (step p mv) linked.once unseen;
  children = children_new steps firsts nexts linked p last mv place is;
  siblings = siblings_new steps firsts nexts linked p last mv is;
}
