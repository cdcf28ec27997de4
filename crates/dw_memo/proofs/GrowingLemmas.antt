-- A table of buckets while it doubles.
use Rattle.std.proofs.Common.{◌≡◌, ◌≢◌, ℕ, zero, suc, ◌<◌, ◌≤◌, ◌+◌, ◌*◌, ◌/◌, ◌^◌, ◌⊎◌, [], ◌∷◌, ◌++◌, List, length}
use Rattle.std.proofs.Common.{slice_get, Bool, true, false, Some, refl, sym, ap, ◌∙◌, subst, inl, inr, arith}
use Rattle.std.proofs.Common.{append_assoc}
use Rattle.std.specs.Prelude.{if◌then◌else◌}
use Rattle.std.proofs.lemmas.Bool.{cases_lt}
use Rattle.std.proofs.lemmas.List.{append-nil}
use Rattle.std.proofs.Math.ListN.{set, length-set}
use Rattle.dw_board.specs.Geometry.{Geometry}
use Rattle.dw_board.specs.inner.Mixing.{mixed_word}
use Rattle.dw_board.specs.Lists.{Member}
use Rattle.dw_board.specs.Placement.{Placement}
use Rattle.dw_memo.specs.declared.bounds.Bounds.{Bounds}
use Rattle.dw_memo.specs.declared.memo.Noted.{Noted}
use Rattle.dw_memo.specs.inner.Buckets.{held, bucket_of, IsTable}
use Rattle.dw_memo.specs.Content.{Entry, Content, IsMap, SameEntries}
use Rattle.dw_memo.specs.Noting.{IsPutIn, IsNote}
use Rattle.dw_memo.specs.inner.Growing.{IsWidened, IsEmptied, IsSplit, IsSplitAt, IsHalfway}
use Rattle.dw_memo.proofs.BucketLemmas.{set_here, set_other, same_number, one_there, is_inside, in_bucket}
use Rattle.dw_memo.proofs.BucketLemmas.{is_held}

-- ---- empty buckets behind a table
appended_length : {X : Type 0} (old more : List X) → length (old ++ more) ≡ length old + length more
appended_length [] more = omega arith
appended_length (x ∷ old) more = omega (arith, appended_length old more)

in_old : {X : Type 0} (old more : List X) (k : ℕ) (x : X) → slice_get old k ≡ Some x
    → slice_get (old ++ more) k ≡ Some x
in_old [] more k x h = absurd (cc)
in_old (y ∷ old) more zero x h = h
in_old (y ∷ old) more (suc k) x h = in_old old more k x h

read_appended : {X : Type 0} (old more : List X) (k : ℕ) (x : X) → slice_get (old ++ more) k ≡ Some x
    → slice_get old k ≡ Some x ⊎ ((j : ℕ) × (slice_get more j ≡ Some x))
read_appended [] more k x h = inr (k, h)
read_appended (y ∷ old) more zero x h = inl h
read_appended (y ∷ old) more (suc k) x h = read_appended old more k x h

pub none_more : {X : Type 0} (entries : X → Content) (old : List X) → IsWidened entries 0 old old
none_more entries old = record {
  more = [];
  is = sym (append-nil old);
  all = refl;
  empty = λ k x h. absurd (cc);
}

alone : {X : Type 0} (x y : X) (j : ℕ) → slice_get (x ∷ []) j ≡ Some y → x ≡ y
alone x y zero h = cc
alone x y (suc j) h = absurd (cc)

pub one_more : {X : Type 0} (entries : X → Content) (count : ℕ) (old now : List X) (x : X)
    → IsWidened entries count old now → entries x ≡ [] → IsWidened entries (count + 1) old (now ++ x ∷ [])
one_more entries count old now x w none = record {
  more = w.more ++ x ∷ [];
  is = ap (λ xs. xs ++ x ∷ []) w.is ∙ append_assoc old w.more (x ∷ []);
  all = omega (arith, appended_length w.more (x ∷ []), w.all);
  empty = λ k y h. elim (read_appended w.more (x ∷ []) k y h) [
    | inl i ↦ w.empty k y i
    | inr i ↦ subst (λ z. entries z ≡ []) (alone x y i.0 i.1) none
  ];
}

-- as the program puts it there
pub one_pushed : {X : Type 0} (entries : X → Content) (count : ℕ) (old now new : List X) (x : X) (ok : Bool)
    → IsWidened entries count old now → entries x ≡ [] → ok ≡ true → new ≡ (if ok then now ++ x ∷ [] else now)
    → IsWidened entries (count + 1) old new
one_pushed entries count old now new x true w none done is = subst (IsWidened entries (count + 1) old) (sym is)
    (one_more entries count old now x w none)
one_pushed entries count old now new x false w none done is = absurd (cc)

-- a table of empty buckets
pub new_held : {X : Type 0} (entries : X → Content) (xs : List X)
    → ((k : ℕ) (x : X) → slice_get xs k ≡ Some x → entries x ≡ []) → held entries xs ≡ []
new_held entries [] none = refl
new_held entries (x ∷ xs) none = ap (λ c. c ++ held entries xs) (none zero x refl)
    ∙ new_held entries xs (λ k y h. none (suc k) y h)

module _ {X : Type 0} (g : Geometry) (entries : X → Content) (count : ℕ) (old new : List X) (nothing : old ≡ [])
    (some : 1 ≤ count) (w : IsWidened entries count old new) where
  is_more : new ≡ w.more
  is_more = w.is ∙ ap (λ xs. xs ++ w.more) nothing

  none_there : (k : ℕ) (x : X) → slice_get new k ≡ Some x → entries x ≡ []
  none_there k x h = w.empty k x (subst (λ xs. slice_get xs k ≡ Some x) is_more h)

  pub new_empty : held entries new ≡ []
  new_empty = new_held entries new none_there

module _ {X : Type 0} (g : Geometry) (entries : X → Content) (size : ℕ) (xs : List X) (some : 1 ≤ size)
    (e : IsEmptied entries size size xs) where
  none_left : (k : ℕ) (x : X) → slice_get xs k ≡ Some x → entries x ≡ []
  none_left k x h = e.empty k x (omega (arith, is_inside xs k x h, e.all)) h

  pub emptied_held : held entries xs ≡ []
  emptied_held = new_held entries xs none_left

-- ---- doubling
-- among twice as many buckets a position's bucket is one of the two that come of its old one
doubled : (m n : ℕ) → (2 * (m * n / 2 ^ 64) ≤ m * (2 * n) / 2 ^ 64) × (m * (2 * n) / 2 ^ 64 ≤ 2 * (m * n / 2 ^ 64) + 1)
doubled m n = (omega arith, omega arith)

pub begun : {X : Type 0} (g : Geometry) (entries : X → Content) (size : ℕ) (old new : List X) → size ≡ length old
    → IsWidened entries size old new → IsHalfway g entries size size old new
begun g entries size old new len w = record {
  all = omega (arith, len, w.all, appended_length old w.more, ap length w.is);
  before = λ k x l h. subst (λ xs. slice_get xs k ≡ Some x) (sym w.is) (in_old old w.more k x h);
  after = λ k x low high l h i j. absurd (omega (arith, l, len, is_inside old k x h));
}

-- there is one at each place
some_there : {X : Type 0} (xs : List X) (k : ℕ) → k < length xs → (x : X) × (slice_get xs k ≡ Some x)
some_there [] k l = absurd (omega arith)
some_there (x ∷ xs) zero l = (x, refl)
some_there (x ∷ xs) (suc k) l = some_there xs k (omega arith)

-- one bucket more is split
module _ {X : Type 0} (g : Geometry) (entries : X → Content) (size k : ℕ) (old now new : List X)
    (h : IsHalfway g entries size (k + 1) old now) (inside : k < size)
    (s : IsSplitAt g entries size k now new) where
  abbrev one : List X
  one = set now (2 * k) s.low

  read_other : (j : ℕ) → j ≢ 2 * k → j ≢ 2 * k + 1 → slice_get new j ≡ slice_get now j
  read_other j a b = ap (λ xs. slice_get xs j) s.is
      ∙ (set_other one (2 * k + 1) s.high j b ∙ set_other now (2 * k) s.low j a)

  read_low : slice_get new (2 * k) ≡ Some s.low
  read_low = ap (λ xs. slice_get xs (2 * k)) s.is
      ∙ (set_other one (2 * k + 1) s.high (2 * k) (λ e. omega arith)
      ∙ set_here now (2 * k) s.low (omega (arith, h.all, inside)))

  read_high : slice_get new (2 * k + 1) ≡ Some s.high
  read_high = ap (λ xs. slice_get xs (2 * k + 1)) s.is
      ∙ set_here one (2 * k + 1) s.high (omega (arith, h.all, inside, length-set now (2 * k) s.low))

  pub one_further : IsHalfway g entries size k old new
  one_further = record {
    all = ap length s.is ∙ (length-set one (2 * k + 1) s.high ∙ (length-set now (2 * k) s.low ∙ h.all));
    before = λ j x l i. read_other j (λ e. omega (arith, l, e)) (λ e. omega (arith, l, e))
        ∙ h.before j x (omega (arith, l)) i;
    after = λ j x low high l i a b. elim (same_number j k) [
      | inl e ↦
          let old_is : s.bucket ≡ x = one_there now k s.bucket x s.stood
          (ap (slice_get now) (sym e) ∙ h.before j x (omega (arith, e)) i) in
          let low_is : s.low ≡ low = one_there new (2 * k) s.low low read_low
          (ap (λ n. slice_get new (2 * n)) (sym e) ∙ a) in
          let high_is : s.high ≡ high = one_there new (2 * k + 1) s.high high read_high
          (ap (λ n. slice_get new (2 * n + 1)) (sym e) ∙ b) in
          subst (λ n. IsSplit g (2 * size) (2 * n) (entries x) (entries low) (entries high)) (sym e)
          (subst (λ z. IsSplit g (2 * size) (2 * k) (entries z) (entries low) (entries high)) old_is
          (subst (λ z. IsSplit g (2 * size) (2 * k) (entries s.bucket) (entries z) (entries high)) low_is
          (subst (λ z. IsSplit g (2 * size) (2 * k) (entries s.bucket) (entries s.low) (entries z)) high_is s.parts)))
      | inr n ↦ h.after j x low high (omega (arith, l, n)) i
          (sym (read_other (2 * j) (λ e. n (omega (arith, e))) (λ e. omega (arith, e))) ∙ a)
          (sym (read_other (2 * j + 1) (λ e. omega (arith, e)) (λ e. n (omega (arith, e)))) ∙ b)
    ];
  }

-- the bucket that is to be split stands where it stood
pub still_map : {X : Type 0} (g : Geometry) (entries : X → Content) (size k : ℕ) (old now : List X)
    → IsTable g entries old → size ≡ length old → IsHalfway g entries size (k + 1) old now → k < size
    → (x : X) → slice_get now k ≡ Some x → IsMap (entries x)
still_map g entries size k old now t len h inside x i =
    let at = some_there old k (omega (arith, len, inside)) in
    subst (λ z. IsMap (entries z)) (one_there now k at.0 x (h.before k at.0 (omega arith) at.1) i)
    (t.maps k at.0 at.1)

-- ---- all are split
half : (i : ℕ) → (j : ℕ) × ((i ≡ 2 * j) ⊎ (i ≡ 2 * j + 1))
half i = (i / 2, elim (cases_lt (2 * (i / 2)) i) [ inl l ↦ inr (omega arith) | inr l ↦ inl (omega arith) ])

-- a bucket is one of the two parts of an old one
record Part {X : Type 0} (old new : List X) (i : ℕ) (y : X) : Type 0 where
  pub k : ℕ
  pub x : X
  pub low : X
  pub high : X
  pub stood : slice_get old k ≡ Some x
  pub low_there : slice_get new (2 * k) ≡ Some low
  pub high_there : slice_get new (2 * k + 1) ≡ Some high
  pub which : ((i ≡ 2 * k) × (y ≡ low)) ⊎ ((i ≡ 2 * k + 1) × (y ≡ high))

module _ {X : Type 0} (g : Geometry) (entries : X → Content) (size : ℕ) (old new : List X) (t : IsTable g entries old)
    (len : size ≡ length old) (h : IsHalfway g entries size 0 old new) where
  part : (i : ℕ) (y : X) → slice_get new i ≡ Some y → Part old new i y
  part i y there =
      let at = half i in
      let within : at.0 < size = elim at.1 [
        | inl e ↦ omega (arith, e, h.all, is_inside new i y there)
        | inr e ↦ omega (arith, e, h.all, is_inside new i y there)
      ] in
      let x = some_there old at.0 (omega (arith, within, len)) in
      let low = some_there new (2 * at.0) (omega (arith, within, h.all)) in
      let high = some_there new (2 * at.0 + 1) (omega (arith, within, h.all)) in
      record {
        k = at.0;
        x = x.0;
        low = low.0;
        high = high.0;
        stood = x.1;
        low_there = low.1;
        high_there = high.1;
        which = elim at.1 [
          | inl e ↦ inl (e, one_there new (2 * at.0) y low.0 (ap (slice_get new) (sym e) ∙ there) low.1)
          | inr e ↦ inr (e, one_there new (2 * at.0 + 1) y high.0 (ap (slice_get new) (sym e) ∙ there) high.1)
        ];
      }

  split : (i : ℕ) (y : X) (p : Part old new i y) → IsSplit g (2 * size) (2 * p.k) (entries p.x) (entries p.low)
      (entries p.high)
  split i y p = h.after p.k p.x p.low p.high (omega arith) p.stood p.low_there p.high_there

  was_there : (i : ℕ) (y : X) (p : Part old new i y) (e : Entry) → Member e (entries y) → Member e (entries p.x)
      × (i ≡ bucket_of g e.position (2 * size))
  was_there i y p e m = elim p.which [
    | inl q ↦
        let on = (split i y p).low_are e (subst (λ z. Member e (entries z)) q.1 m) in
        (on.0, q.0 ∙ sym on.1)
    | inr q ↦
        let on = (split i y p).high_are e (subst (λ z. Member e (entries z)) q.1 m) in
        let near = doubled (mixed_word g e.position) size in
        let own : p.k ≡ bucket_of g e.position size = t.placed p.k p.x e p.stood on.0
        ∙ ap (bucket_of g e.position) (sym len) in
        (on.0, omega (arith, q.0, on.1, near.0, near.1, own))
  ]

  pub done_table : IsTable g entries new
  done_table = record {
    some_bucket = omega (arith, t.some_bucket, len, h.all);
    maps = λ i y there.
        let p = part i y there in
        elim p.which [
          | inl q ↦ subst (λ z. IsMap (entries z)) (sym q.1) (split i y p).low_map
          | inr q ↦ subst (λ z. IsMap (entries z)) (sym q.1) (split i y p).high_map
        ];
    placed = λ i y e there m. (was_there i y (part i y there) e m).1 ∙ ap (bucket_of g e.position) (sym h.all);
  }

  stays : (e : Entry) → Member e (held entries old) → Member e (held entries new)
  stays e m =
      let at = in_bucket entries old e m in
      let within : at.0 < size = omega (arith, len, is_inside old at.0 at.1 at.2) in
      let low = some_there new (2 * at.0) (omega (arith, within, h.all)) in
      let high = some_there new (2 * at.0 + 1) (omega (arith, within, h.all)) in
      elim ((h.after at.0 at.1 low.0 high.0 (omega arith) at.2 low.1 high.1).each e at.3) [
        | inl n ↦ is_held entries new (2 * at.0) low.0 e low.1 n
        | inr n ↦ is_held entries new (2 * at.0 + 1) high.0 e high.1 n
      ]

  pub done_same : SameEntries (held entries old) (held entries new)
  done_same e = (
    stays e,
    λ m.
        let at = in_bucket entries new e m in
        let p = part at.0 at.1 at.2 in
        is_held entries old p.k p.x e p.stood (was_there at.0 at.1 p e at.3).0,
  )

-- a note on a memo that was made larger before
pub noted_larger : (old wide : Content) (p : Placement) (b : Bounds) (answer : Noted) (new : Content) (lost : ℕ)
    → IsMap old → SameEntries old wide → IsNote wide p b answer new 0 lost → IsNote old p b answer new 0 lost
noted_larger old wide p b answer new lost map same n =
    let put : (e : Entry) → IsPutIn wide p b e
    → IsPutIn old p b e = λ e i. elim i [ inl q ↦ inl q | inr m ↦ inr ((same e).1 m.0, m.1) ] in
    record {
      map_before = map;
      map = n.map;
      only = λ e m. put e (n.only e m);
      kept = n.kept;
      missing = n.missing;
      are_missing = record {
        each_once = n.are_missing.each_once;
        only = λ e m. (put e (n.are_missing.only e m).0, (n.are_missing.only e m).1);
        given = n.are_missing.given;
        others = λ e m. n.are_missing.others e ((same e).0 m);
      };
      count = n.count;
    }
