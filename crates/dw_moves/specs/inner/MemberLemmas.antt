-- Laws of membership in lists.
use Rattle.std.proofs.Common.{◌≡◌, ◌≤◌, List, [], ◌∷◌, ◌++◌, length, map, refl, sym, ap, subst, ◌⊎◌, inl, inr, arith}
use Rattle.std.proofs.Common.{length-append, Bool, true, false}
use Rattle.std.specs.List.{flat_map}
use Rattle.std.specs.Prelude.{filter}
use Rattle.dw_board.specs.Lists.{Member, NoRepeat}

pub mem_left : {X : Type 0} → (x : X) (xs ys : List X) → Member x xs → Member x (xs ++ ys)
mem_left x [] ys m = absurd m
mem_left x (y ∷ xs) ys (inl e) = inl e
mem_left x (y ∷ xs) ys (inr m) = inr (mem_left x xs ys m)

pub mem_right : {X : Type 0} → (x : X) (xs ys : List X) → Member x ys → Member x (xs ++ ys)
mem_right x [] ys m = m
mem_right x (y ∷ xs) ys m = inr (mem_right x xs ys m)

pub mem_cases : {X : Type 0} → (x : X) (xs ys : List X) → Member x (xs ++ ys) → Member x xs ⊎ Member x ys
mem_cases x [] ys m = inr m
mem_cases x (y ∷ xs) ys (inl e) = inl (inl e)
mem_cases x (y ∷ xs) ys (inr m) = elim (mem_cases x xs ys m) [ inl l ↦ inl (inr l) | inr r ↦ inr r ]

pub mem_map : {X Y : Type 0} (f : X → Y) → (x : X) (xs : List X) → Member x xs → Member (f x) (map f xs)
mem_map f x [] m = absurd m
mem_map f x (y ∷ xs) (inl e) = inl (ap f e)
mem_map f x (y ∷ xs) (inr m) = inr (mem_map f x xs m)

pub mem_map_back : {X Y : Type 0} (f : X → Y) → (y : Y) (xs : List X) → Member y (map f xs)
    → (x : X) × Member x xs × (y ≡ f x)
mem_map_back f y [] m = absurd m
mem_map_back f y (x ∷ xs) (inl e) = (x, inl refl, e)
mem_map_back f y (x ∷ xs) (inr m) = let r = mem_map_back f y xs m in (r.0, inr r.1, r.2)

pub mem_flat : {X Y : Type 0} (f : X → List Y) → (x : X) (y : Y) (xs : List X) → Member x xs → Member y (f x)
    → Member y (flat_map f xs)
mem_flat f x y [] m h = absurd m
mem_flat f x y (z ∷ xs) (inl e) h = mem_left y (f z) (flat_map f xs) (subst (λ w. Member y (f w)) e h)
mem_flat f x y (z ∷ xs) (inr m) h = mem_right y (f z) (flat_map f xs) (mem_flat f x y xs m h)

pub mem_flat_back : {X Y : Type 0} (f : X → List Y) → (y : Y) (xs : List X) → Member y (flat_map f xs)
    → (x : X) × Member x xs × Member y (f x)
mem_flat_back f y [] m = absurd m
mem_flat_back f y (z ∷ xs) m = elim (mem_cases y (f z) (flat_map f xs) m) [
  | inl l ↦ (z, inl refl, l)
  | inr r ↦ let q = mem_flat_back f y xs r in (q.0, inr q.1, q.2)
]

pub mem_filter : {X : Type 0} (p : X → Bool) → (x : X) (xs : List X) → Member x xs → p x ≡ true → Member x (filter p xs)
mem_filter p x [] m h = absurd m
mem_filter p x (y ∷ xs) (inl e) h = let h' : p y ≡ true = subst (λ w. p w ≡ true) e h in rw h' (inl e)
mem_filter p x (y ∷ xs) (inr m) h =
    let P : Bool → Type 0 = λ b. (p y ≡ b) → Member x (filter p (y ∷ xs)) in
    let go : (b : Bool) → p y ≡ b → Member x (filter p (y ∷ xs)) =
    λ b. elim b as P [ true ↦ λ e. rw e (inr (mem_filter p x xs m h)) | false ↦ λ e. rw e (mem_filter p x xs m h) ] in
    go (p y) refl

pub mem_filter_back : {X : Type 0} (p : X → Bool) → (x : X) (xs : List X) → Member x (filter p xs)
    → Member x xs × (p x ≡ true)
mem_filter_back p x [] m = absurd m
mem_filter_back p x (y ∷ xs) m =
    let P : Bool → Type 0 = λ b. (p y ≡ b) → Member x xs × (p x ≡ true) ⊎ ((x ≡ y) × (p x ≡ true)) in
    let go : (b : Bool) → P b =
    λ b. elim b as P [
      | true ↦ λ e. let m' = rw e at m in elim m' [
        | inl q ↦ inr (q, subst (λ w. p w ≡ true) (sym q) e)
        | inr r ↦ inl (mem_filter_back p x xs r)
      ]
      | false ↦ λ e. let m' = rw e at m in inl (mem_filter_back p x xs m')
    ] in
    elim (go (p y) refl) [ inl r ↦ (inr r.0, r.1) | inr r ↦ (inl r.0, r.1) ]

-- a member splits the list
pub mem_split : {X : Type 0} → (x : X) (xs : List X) → Member x xs → (l : List X) × (r : List X) × (xs ≡ l ++ x ∷ r)
mem_split x [] m = absurd m
mem_split x (y ∷ xs) (inl e) = ([], xs, ap (λ z. z ∷ xs) (sym e))
mem_split x (y ∷ xs) (inr m) = let s = mem_split x xs m in (y ∷ s.0, s.1, ap (λ z. y ∷ z) s.2)

pub mem_at : {X : Type 0} → (x : X) (l r : List X) → Member x (l ++ x ∷ r)
mem_at x l r = mem_right x l (x ∷ r) (inl refl)

-- a list with no repeats is no longer than one that has all its members
pub no_more : {X : Type 0} → (xs ys : List X) → NoRepeat xs → ((x : X) → Member x xs → Member x ys)
    → length xs ≤ length ys
no_more [] ys n h = omega arith
no_more {X} (x ∷ xs) ys n h =
    let s = mem_split x ys (h x (inl refl)) in
    let rest : (y : X) → Member y xs → Member y (s.0 ++ s.1) = λ y m.
    let here = rw s.2 at (h y (inr m)) in
    elim (mem_cases y s.0 (x ∷ s.1) here) [
      | inl l ↦ mem_left y s.0 s.1 l
      | inr (inl e) ↦ absurd (n.0 (subst (λ w. Member w xs) e m))
      | inr (inr r) ↦ mem_right y s.0 s.1 r
    ] in
    let shorter : length xs ≤ length (s.0 ++ s.1) = no_more xs (s.0 ++ s.1) n.1 rest in
    let long : length ys ≡ length (s.0 ++ x ∷ s.1) = ap length s.2 in
    omega (arith, length-append s.0 s.1, length-append s.0 (x ∷ s.1))
