-- Tables in which each position has one bucket.
use Rattle.std.proofs.Common.{◌≡◌, ◌≢◌, ℕ, zero, suc, ◌<◌, ◌⊎◌, List, [], ◌∷◌, length, slice_get, get_or, Option, Some}
use Rattle.std.proofs.Common.{None, refl, sym, ap, ◌∙◌, subst, inl, inr, arith}
use Rattle.std.proofs.lemmas.Bool.{cases_lt}
use Rattle.std.proofs.lemmas.Option.{slice_get_read}
use Rattle.std.proofs.Math.ListN.{set, length-set}
use Rattle.dw_board.specs.Geometry.{Geometry}
use Rattle.dw_board.specs.Lists.{Member}
use Rattle.dw_board.specs.Placement.{Placement}
use Rattle.dw_memo.specs.declared.bounds.Bounds.{Bounds}
use Rattle.dw_memo.specs.declared.memo.Noted.{Noted}
use Rattle.dw_memo.specs.inner.Buckets.{held, bucket_of, IsTable}
use Rattle.dw_memo.specs.Content.{Entry, entry, Content, IsMap, IsFound}
use Rattle.dw_memo.specs.Noting.{IsNote}
use Rattle.dw_memo.proofs.EntryLemmas.{position_held, bounds_held}
use Rattle.dw_memo.proofs.BesideLemmas.{appended, map_joined, noted_before, noted_behind}

-- ---- a list after one of it was written
pub set_here : {X : Type 0} (xs : List X) (k : ℕ) (x : X) → k < length xs → slice_get (set xs k x) k ≡ Some x
set_here [] k x h = absurd (omega arith)
set_here (y ∷ xs) zero x h = refl
set_here (y ∷ xs) (suc k) x h = set_here xs k x (omega arith)

pub set_other : {X : Type 0} (xs : List X) (k : ℕ) (x : X) (j : ℕ) → j ≢ k
    → slice_get (set xs k x) j ≡ slice_get xs j
set_other [] k x j h = refl
set_other (y ∷ xs) zero x zero h = absurd (h refl)
set_other (y ∷ xs) zero x (suc j) h = refl
set_other (y ∷ xs) (suc k) x zero h = refl
set_other (y ∷ xs) (suc k) x (suc j) h = set_other xs k x j (λ e. h (ap (λ n. suc n) e))

pub same_number : (j k : ℕ) → (j ≡ k) ⊎ (j ≢ k)
same_number j k = elim (cases_lt j k) [
  | inl l ↦ inr (λ e. omega arith)
  | inr l ↦ elim (cases_lt k j) [ inl m ↦ inr (λ e. omega arith) | inr m ↦ inl (omega arith) ]
]

some_same : {X : Type 0} (x y : X) → Some x ≡ Some y → x ≡ y
some_same x y e = cc

pub one_there : {X : Type 0} (xs : List X) (k : ℕ) (x y : X) → slice_get xs k ≡ Some x → slice_get xs k ≡ Some y
    → x ≡ y
one_there xs k x y h i = some_same x y (sym h ∙ i)

pub is_inside : {X : Type 0} (xs : List X) (k : ℕ) (x : X) → slice_get xs k ≡ Some x → k < length xs
is_inside [] k x h = cc
is_inside (y ∷ xs) zero x h = omega arith
is_inside (y ∷ xs) (suc k) x h = omega (arith, is_inside xs k x h)

-- what is read after a write
pub set_read : {X : Type 0} (xs : List X) (k : ℕ) (x : X) (j : ℕ) (y : X) → k < length xs
    → slice_get (set xs k x) j ≡ Some y → ((j ≡ k) × (x ≡ y)) ⊎ ((j ≢ k) × (slice_get xs j ≡ Some y))
set_read xs k x j y inside h = elim (same_number j k) [
  | inl e ↦ inl (e, some_same x y (sym (set_here xs k x inside) ∙ (ap (slice_get (set xs k x)) (sym e) ∙ h)))
  | inr n ↦ inr (n, sym (set_other xs k x j n) ∙ h)
]

-- ---- buckets and entries
pub in_bucket : {X : Type 0} (entries : X → Content) (xs : List X) (e : Entry) → Member e (held entries xs)
    → (k : ℕ) × (x : X) × (slice_get xs k ≡ Some x) × Member e (entries x)
in_bucket entries [] e m = absurd m
in_bucket entries (x ∷ xs) e m = elim ((appended (entries x) (held entries xs)).each e m) [
  | inl n ↦ (zero, x, refl, n)
  | inr n ↦ let on = in_bucket entries xs e n in (suc on.0, on.1, on.2, on.3)
]

pub is_held : {X : Type 0} (entries : X → Content) (xs : List X) (k : ℕ) (x : X) (e : Entry)
    → slice_get xs k ≡ Some x → Member e (entries x) → Member e (held entries xs)
is_held entries [] k x e h m = absurd (cc)
is_held entries (y ∷ xs) zero x e h m = (appended (entries y) (held entries xs)).first e
    (subst (λ z. Member e (entries z)) (sym (some_same y x h)) m)
is_held entries (y ∷ xs) (suc k) x e h m = (appended (entries y) (held entries xs)).second e
    (is_held entries xs k x e h m)

-- a position stands once in its bucket, and in no other one
record IsOrdered {X : Type 0} (entries : X → Content) (xs : List X) : Type 0 where
  pub maps : (k : ℕ) (x : X) → slice_get xs k ≡ Some x → IsMap (entries x)
  pub unique : (j k : ℕ) (x y : X) (e f : Entry) → slice_get xs j ≡ Some x → slice_get xs k ≡ Some y
      → Member e (entries x) → Member f (entries y) → e.position ≡ f.position → j ≡ k

ordered : {X : Type 0} (g : Geometry) (entries : X → Content) (xs : List X) → IsTable g entries xs
    → IsOrdered entries xs
ordered g entries xs t = record {
  maps = t.maps;
  unique = λ j k x y e f h i m n q. t.placed j x e h m
      ∙ (ap (λ p. bucket_of g p (length xs)) q ∙ sym (t.placed k y f i n));
}

rest : {X : Type 0} (entries : X → Content) (x : X) (xs : List X) → IsOrdered entries (x ∷ xs) → IsOrdered entries xs
rest entries x xs o = record {
  maps = λ k y h. o.maps (suc k) y h;
  unique = λ j k y z e f h i m n q. let r : suc j ≡ suc k = o.unique (suc j) (suc k) y z e f h i m n q in omega arith;
}

ordered_map : {X : Type 0} (entries : X → Content) (xs : List X) → IsOrdered entries xs → IsMap (held entries xs)
ordered_map entries [] o = tt
ordered_map entries (x ∷ xs) o = map_joined (entries x) (held entries xs) (o.maps zero x refl)
    (ordered_map entries xs (rest entries x xs o))
    (λ e f m n q.
    let at = in_bucket entries xs f n in
    let r : zero ≡ suc at.0 = o.unique zero (suc at.0) x at.1 e f refl at.2 m at.3 q in absurd (omega arith))

pub table_map : {X : Type 0} (g : Geometry) (entries : X → Content) (xs : List X) → IsTable g entries xs
    → IsMap (held entries xs)
table_map g entries xs t = ordered_map entries xs (ordered g entries xs t)

-- ---- a look-up
found_at : {X : Type 0} (g : Geometry) (entries : X → Content) (xs : List X) (k : ℕ) (p : Placement) (x : X)
    (o : Option Bounds) → IsTable g entries xs → k ≡ bucket_of g p (length xs) → slice_get xs k ≡ Some x
    → IsFound (entries x) p o → IsFound (held entries xs) p o
found_at g entries xs k p x (Some b) t here h found = is_held entries xs k x (entry p b) h found
found_at g entries xs k p x None t here h found = λ m.
    let b = bounds_held p (held entries xs) m in
    let at = in_bucket entries xs (entry p b.0) b.1 in
    let same : at.0 ≡ k = t.placed at.0 at.1 (entry p b.0) at.2 at.3 ∙ sym here in
    let own : at.1 ≡ x = one_there xs k at.1 x (ap (slice_get xs) (sym same) ∙ at.2) h in
    found (position_held (entry p b.0) (entries x) (subst (λ z. Member (entry p b.0) (entries z)) own at.3))

pub found : {X : Type 0} (g : Geometry) (entries : X → Content) (xs : List X) (n k : ℕ) (p : Placement) (x : X)
    (o : Option Bounds) → IsTable g entries xs → n ≡ length xs → k ≡ bucket_of g p n → k < n → x ≡ get_or xs k x
    → IsFound (entries x) p o → IsFound (held entries xs) p o
found g entries xs n k p x o t len here inside read f =
    found_at g entries xs k p x o t (here ∙ ap (bucket_of g p) len) (slice_get_read xs n k x len inside read) f

-- ---- a note
noted_at : {X : Type 0} (entries : X → Content) (xs : List X) (k : ℕ) (x y : X) (p : Placement) (b : Bounds)
    (answer : Noted) (lost : ℕ) → IsOrdered entries xs → slice_get xs k ≡ Some x
    → ((j : ℕ) (z : X) (e : Entry) → slice_get xs j ≡ Some z → Member e (entries z) → e.position ≡ p → j ≡ k)
    → IsNote (entries x) p b answer (entries y) 0 lost
    → IsNote (held entries xs) p b answer (held entries (set xs k y)) 0 lost
noted_at entries [] k x y p b answer lost o h own n = absurd (cc)
noted_at entries (z ∷ xs) zero x y p b answer lost o h own n =
    noted_before (entries z) (entries y) (held entries xs) p b answer lost (ordered_map entries (z ∷ xs) o)
    (λ m.
    let c = bounds_held p (held entries xs) m in
    let at = in_bucket entries xs (entry p c.0) c.1 in
    let r : suc at.0 ≡ zero = own (suc at.0) at.1 (entry p c.0) at.2 at.3 refl in absurd (omega arith))
    (subst (λ w. IsNote (entries w) p b answer (entries y) 0 lost) (sym (some_same z x h)) n)
noted_at entries (z ∷ xs) (suc k) x y p b answer lost o h own n =
    noted_behind (held entries xs) (held entries (set xs k y)) (entries z) p b answer lost
    (ordered_map entries (z ∷ xs) o)
    (λ m.
    let c = bounds_held p (entries z) m in
    let r : zero ≡ suc k = own zero z (entry p c.0) refl c.1 refl in absurd (omega arith))
    (noted_at entries xs k x y p b answer lost (rest entries z xs o) h
    (λ j w e i m q. let r : suc j ≡ suc k = own (suc j) w e i m q in omega arith) n)

module _ {X : Type 0} (g : Geometry) (entries : X → Content) (xs : List X) (len k : ℕ) (x y : X) (p : Placement) (b
    : Bounds) (answer : Noted) (lost : ℕ) (t : IsTable g entries xs) (is : len ≡ length xs) (here : k
    ≡ bucket_of g p len) (inside : k < len) (read : x ≡ get_or xs k x) (n : IsNote (entries x) p b answer (entries y) 0
    lost) where
  stood : slice_get xs k ≡ Some x
  stood = slice_get_read xs len k x is inside read

  home : k ≡ bucket_of g p (length xs)
  home = here ∙ ap (bucket_of g p) is

  pub noted : IsNote (held entries xs) p b answer (held entries (set xs k y)) 0 lost
  noted = noted_at entries xs k x y p b answer lost (ordered g entries xs t) stood
      (λ j z e h m q. t.placed j z e h m ∙ (ap (λ w. bucket_of g w (length xs)) q ∙ sym home)) n

  pub noted_table : IsTable g entries (set xs k y)
  noted_table = record {
    some_bucket = omega (arith, t.some_bucket, length-set xs k y);
    maps = λ j z h. elim (set_read xs k y j z (omega (arith, inside, is)) h) [
      | inl e ↦ subst (λ w. IsMap (entries w)) e.1 n.map
      | inr e ↦ t.maps j z e.1
    ];
    placed = λ j z e h m. subst (λ w. j ≡ bucket_of g e.position w) (sym (length-set xs k y))
        (elim (set_read xs k y j z (omega (arith, inside, is)) h) [
          | inl q ↦ elim (n.only e (subst (λ w. Member e (entries w)) (sym q.1) m)) [
            | inl r ↦ q.0 ∙ (home ∙ ap (λ (w : Entry). bucket_of g w.position (length xs)) (sym r))
            | inr r ↦ q.0 ∙ t.placed k x e stood r.0
          ]
          | inr q ↦ t.placed j z e q.1 m
        ]);
  }
