-- Maps of bounded size, the pair that was used last first.
use Rattle.std.proofs.Common.{◌≡◌, ◌≢◌, ℕ, zero, suc, ◌+◌, ◌-◌, ◌≤◌, ◌⊎◌, Bool, true, false, not, List, [], ◌∷◌, length}
use Rattle.std.proofs.Common.{take, slice_get, Option, Some, None, is_some, refl, sym, ap, ◌∙◌, subst, inl, inr, arith}
use Rattle.std.specs.Int.{from_bool}
use Rattle.std.specs.Map.{lookup, lookup_entry, remove_entry}
use Rattle.std.specs.Option.{option_map, option_map_or, IsSome}
use Rattle.lru.specs.LruCache.{LruCache, lru_cache, promoted, put_entries, displaced, last_entry}
use Rattle.dw_board.specs.Placement.{Placement}
use Rattle.dw_board.specs.inner.PlacementLemmas.{same, same-is}
use Rattle.dw_memo.specs.declared.bounds.Bounds.{Bounds}
use Rattle.dw_memo.specs.declared.fact.Fact.{Fact}
use Rattle.dw_memo.specs.declared.memo.Noted.{Noted}
use Rattle.dw_memo.specs.declared.memo.Noted.TheVariants.{Kept, NotKept}
use Rattle.dw_memo.specs.Content.{Entry, entry, Content, positions, IsMap, SameEntries, IsFound}
use Rattle.dw_board.specs.Lists.{Member}
use Rattle.dw_memo.specs.Recent.{content_of, IsRecent}
use Rattle.dw_memo.specs.Noting.{IsNote}
use Rattle.dw_memo.proofs.EntryLemmas.{position_held, bounds_held, one_entry}
use Rattle.dw_memo.proofs.GrowingLemmas.{noted_larger}
use Rattle.dw_memo.proofs.NoteLemmas.{none_missing, one_missing, unchanged}

abbrev Pair : Type 0
Pair = Placement × Fact

abbrev entry_of : Pair → Entry
entry_of e = entry e.0 e.1.bounds

-- ---- one position's pair
lookup-is : (test : Placement → Bool) (es : List Pair) → lookup test es ≡ option_map (λ e. e.1) (lookup_entry test es)
lookup-is test [] = refl
lookup-is test (g ∷ es) = (elim (test g.0) as (λ y. test g.0 ≡ y → lookup test (g ∷ es)
    ≡ option_map (λ e. e.1) (lookup_entry test (g ∷ es))) [
      | true ↦ λ t. rw t refl
      | false ↦ λ t. rw t (lookup-is test es)
    ]) refl

found : (k : Placement) (es : List Pair) (f : Pair) → lookup_entry (same k) es ≡ Some f → (f.0 ≡ k)
    × Member (entry_of f) (content_of es)
found k [] f h = cc
found k (g ∷ es) f h = (elim (same k g.0) as (λ y. same k g.0 ≡ y → (f.0 ≡ k)
    × Member (entry_of f) (content_of (g ∷ es))) [
      | true ↦ λ t. let h' = rw t at h in let q : g ≡ f = cc in
          (sym ((same-is k g.0).0 t ∙ ap (λ (e : Pair). e.0) q), inl (ap entry_of (sym q)))
      | false ↦ λ t. let on = found k es f (rw t at h) in (on.0, inr on.1)
    ]) refl

not_found : (k : Placement) (es : List Pair) → lookup_entry (same k) es ≡ None → Member k (positions (content_of es))
    → ⊥
not_found k [] h m = m
not_found k (g ∷ es) h m = (elim (same k g.0) as (λ y. same k g.0 ≡ y → ⊥) [
  | true ↦ λ t. let h' = rw t at h in cc
  | false ↦ λ t. elim m [ inl q ↦ let s = (same-is k g.0).1 q in cc | inr r ↦ not_found k es (rw t at h) r ]
]) refl

looked_up_at : (k : Placement) (es : List Pair) (o : Option Bounds) (f : Option Pair) → lookup_entry (same k) es ≡ f
    → o ≡ option_map (λ (x : Fact). x.bounds) (option_map (λ (e : Pair). e.1) f) → IsFound (content_of es) k o
looked_up_at k es o None h q = subst (IsFound (content_of es) k) (sym q) (not_found k es h)
looked_up_at k es o (Some f) h q = let on = found k es f h in
    subst (IsFound (content_of es) k) (sym q) (subst (λ p. Member (entry p f.1.bounds) (content_of es)) on.0 on.1)

pub looked_up : (k : Placement) (es : List Pair) (o : Option Bounds)
    → o ≡ option_map (λ (x : Fact). x.bounds) (lookup (same k) es) → IsFound (content_of es) k o
looked_up k es o e = looked_up_at k es o (lookup_entry (same k) es) refl
    (e ∙ ap (option_map (λ (x : Fact). x.bounds)) (lookup-is (same k) es))

-- ---- without one position's pair
removed_position : (k : Placement) (es : List Pair) (p : Placement)
    → Member p (positions (content_of (remove_entry (same k) es))) → Member p (positions (content_of es))
removed_position k [] p m = m
removed_position k (g ∷ es) p m = (elim (same k g.0) as (λ y. same k g.0 ≡ y
    → Member p (positions (content_of (g ∷ es)))) [
      | true ↦ λ t. inr (rw t at m)
      | false ↦ λ t. let n : Member p (positions (content_of (g ∷ remove_entry (same k) es))) = rw t at m in
          elim n [ inl q ↦ inl q | inr r ↦ inr (removed_position k es p r) ]
    ]) refl

removed_map : (k : Placement) (es : List Pair) → IsMap (content_of es) → IsMap (content_of (remove_entry (same k) es))
removed_map k [] map = tt
removed_map k (g ∷ es) map = (elim (same k g.0) as (λ y. same k g.0 ≡ y
    → IsMap (content_of (remove_entry (same k) (g ∷ es)))) [
      | true ↦ λ t. rw t map.1
      | false ↦ λ t. rw t (λ m. map.0 (removed_position k es g.0 m), removed_map k es map.1)
    ]) refl

-- what is left was there, and is another position's
removed_held : (k : Placement) (es : List Pair) (x : Entry) → IsMap (content_of es)
    → Member x (content_of (remove_entry (same k) es)) → Member x (content_of es) × (x.position ≢ k)
removed_held k [] x map m = absurd m
removed_held k (g ∷ es) x map m = (elim (same k g.0) as (λ y. same k g.0 ≡ y → Member x (content_of (g ∷ es))
    × (x.position ≢ k)) [
      | true ↦ λ t. let n : Member x (content_of es) = rw t at m in (
        inr n,
        λ q. map.0 (subst (λ p. Member p (positions (content_of es))) (q ∙ (same-is k g.0).0 t)
            (position_held x (content_of es) n)),
      )
      | false ↦ λ t. let n : Member x (content_of (g ∷ remove_entry (same k) es)) = rw t at m in
          elim n [
            | inl q ↦ (inl q, λ w. let s = (same-is k g.0).1 (sym w ∙ ap (λ (e : Entry). e.position) q) in absurd (cc))
            | inr r ↦ let on = removed_held k es x map.1 r in (inr on.0, on.1)
          ]
    ]) refl

-- what was there is left, or is that position's
removed_kept : (k : Placement) (es : List Pair) (x : Entry) → Member x (content_of es) → (x.position ≡ k)
    ⊎ Member x (content_of (remove_entry (same k) es))
removed_kept k [] x m = absurd m
removed_kept k (g ∷ es) x m = (elim (same k g.0) as (λ y. same k g.0 ≡ y → (x.position ≡ k)
    ⊎ Member x (content_of (remove_entry (same k) (g ∷ es)))) [
      | true ↦ λ t. elim m [
        | inl q ↦ inl (ap (λ (e : Entry). e.position) q ∙ sym ((same-is k g.0).0 t))
        | inr r ↦ inr (rw t r)
      ]
      | false ↦ λ t. elim m [
        | inl q ↦ inr (rw t (inl q))
        | inr r ↦ elim (removed_kept k es x r) [ inl q ↦ inl q | inr s ↦ inr (rw t (inr s)) ]
      ]
    ]) refl

removed_length : (k : Placement) (es : List Pair) (f : Pair) → lookup_entry (same k) es ≡ Some f
    → length (remove_entry (same k) es) + 1 ≡ length es
removed_length k [] f h = cc
removed_length k (g ∷ es) f h = (elim (same k g.0) as (λ y. same k g.0 ≡ y → length (remove_entry (same k) (g ∷ es)) + 1
    ≡ length (g ∷ es)) [
      | true ↦ λ t. rw t (omega arith)
      | false ↦ λ t. rw t (omega (arith, removed_length k es f (rw t at h)))
    ]) refl

-- that position is gone
gone : (k : Placement) (es : List Pair) → IsMap (content_of es)
    → Member k (positions (content_of (remove_entry (same k) es))) → ⊥
gone k es map m = let h = bounds_held k (content_of (remove_entry (same k) es)) m in
    (removed_held k es (entry k h.0) map h.1).1 refl

-- ---- the first pairs
taken_position : (n : ℕ) (es : List Pair) (p : Placement) → Member p (positions (content_of (take n es)))
    → Member p (positions (content_of es))
taken_position zero es p m = absurd m
taken_position (suc n) [] p m = m
taken_position (suc n) (g ∷ es) p (inl q) = inl q
taken_position (suc n) (g ∷ es) p (inr m) = inr (taken_position n es p m)

taken_held : (n : ℕ) (es : List Pair) (x : Entry) → Member x (content_of (take n es)) → Member x (content_of es)
taken_held zero es x m = absurd m
taken_held (suc n) [] x m = m
taken_held (suc n) (g ∷ es) x (inl q) = inl q
taken_held (suc n) (g ∷ es) x (inr m) = inr (taken_held n es x m)

taken_map : (n : ℕ) (es : List Pair) → IsMap (content_of es) → IsMap (content_of (take n es))
taken_map zero es map = tt
taken_map (suc n) [] map = tt
taken_map (suc n) (g ∷ es) map = (λ m. map.0 (taken_position n es g.0 m), taken_map n es map.1)

taken_length : (n : ℕ) (es : List Pair) → length (take n es) ≤ n
taken_length zero es = omega arith
taken_length (suc n) [] = omega arith
taken_length (suc n) (g ∷ es) = omega (arith, taken_length n es)

-- there are no more
taken_all : (n : ℕ) (es : List Pair) (x : Entry) → slice_get es n ≡ None → Member x (content_of es)
    → Member x (content_of (take n es))
taken_all n [] x h m = absurd m
taken_all zero (g ∷ es) x h m = absurd (cc)
taken_all (suc n) (g ∷ es) x h (inl q) = inl q
taken_all (suc n) (g ∷ es) x h (inr m) = inr (taken_all n es x h m)

-- there is one more
taken_most : (n : ℕ) (es : List Pair) (d : Pair) (x : Entry) → slice_get es n ≡ Some d → length es ≤ n + 1
    → Member x (content_of es) → Member x (content_of (take n es)) ⊎ (x ≡ entry_of d)
taken_most n [] d x h fits m = absurd m
taken_most zero (g ∷ []) d x h fits (inl q) = let s : g ≡ d = cc in inr (q ∙ ap entry_of s)
taken_most zero (g ∷ []) d x h fits (inr m) = absurd m
taken_most zero (g ∷ (f ∷ es)) d x h fits m = absurd (omega arith)
taken_most (suc n) (g ∷ es) d x h fits (inl q) = inl (inl q)
taken_most (suc n) (g ∷ es) d x h fits (inr m) = elim (taken_most n es d x h (omega arith) m)
    [ inl r ↦ inl (inr r) | inr q ↦ inr q ]

at_held : (n : ℕ) (es : List Pair) (d : Pair) → slice_get es n ≡ Some d → Member (entry_of d) (content_of es)
at_held n [] d h = cc
at_held zero (g ∷ es) d h = let s : g ≡ d = cc in inl (ap entry_of (sym s))
at_held (suc n) (g ∷ es) d h = inr (at_held n es d h)

-- the one behind them is another position's than each of them
at_apart : (n : ℕ) (es : List Pair) (d : Pair) → IsMap (content_of es) → slice_get es n ≡ Some d
    → Member d.0 (positions (content_of (take n es))) → ⊥
at_apart zero es d map h m = m
at_apart (suc n) [] d map h m = m
at_apart (suc n) (g ∷ es) d map h (inl q) = map.0 (subst (λ p. Member p (positions (content_of es))) q
    (position_held (entry_of d) (content_of es) (at_held n es d h)))
at_apart (suc n) (g ∷ es) d map h (inr m) = at_apart n es d map.1 h m

-- ---- a look-up
abbrev brought : (k : Placement) (es : List Pair) → Option Pair → List Pair
brought k es o = option_map_or (λ e. e ∷ remove_entry (same k) es) o es

brought_recent : (k : Placement) (es : List Pair) (room : ℕ) (o : Option Pair) → lookup_entry (same k) es ≡ o
    → IsRecent es room → IsRecent (brought k es o) room
brought_recent k es room None h r = r
brought_recent k es room (Some f) h r = record {
  map = (
    λ m. gone k es r.map (subst (λ p. Member p (positions (content_of (remove_entry (same k) es))))
        (found k es f h).0 m),
    removed_map k es r.map,
  );
  fits = omega (arith, r.fits, removed_length k es f h);
  some_room = r.some_room;
}

brought_same : (k : Placement) (es : List Pair) (o : Option Pair) → lookup_entry (same k) es ≡ o → IsMap (content_of es)
    → SameEntries (content_of es) (content_of (brought k es o))
brought_same k es None h map e = (λ m. m, λ m. m)
brought_same k es (Some f) h map e =
    let on = found k es f h in (
      λ m. elim (removed_kept k es e m) [
        | inl q ↦ inl (one_entry (content_of es) map e (entry_of f) m on.1 (q ∙ sym on.0))
        | inr r ↦ inr r
      ],
      λ m. elim m [
        | inl q ↦ subst (λ x. Member x (content_of es)) (sym q) on.1
        | inr r ↦
            (removed_held k es e map r).0
      ],
    )

pub promoted_recent : (k : Placement) (es : List Pair) (room : ℕ) → IsRecent es room
    → IsRecent (promoted (same k) es) room
promoted_recent k es room r = brought_recent k es room (lookup_entry (same k) es) refl r

pub promoted_same : (k : Placement) (es : List Pair) → IsMap (content_of es)
    → SameEntries (content_of es) (content_of (promoted (same k) es))
promoted_same k es map = brought_same k es (lookup_entry (same k) es) refl map

is_none : {X : Type 0} (o : Option X) → (IsSome o → false ≡ true) → o ≡ None
is_none None h = refl
is_none (Some x) h = let q : false ≡ true = h refl in absurd (cc)

none_is : (o : Option Pair) {l : Option Fact} → option_map (λ (e : Pair). e.1) o ≡ l → is_some l ≡ false → o ≡ None
none_is None q h = refl
none_is (Some f) q h = absurd (cc)

-- ---- a pair that is put in
module _ (c : LruCache Placement Fact) (k : Placement) (v : Fact) (r : IsRecent c.entries c.cap) where
  abbrev after : Option Pair → List Pair
  after o = option_map_or (λ e. (e.0, v) ∷ remove_entry (same k) c.entries) o ((k, v) ∷ take (c.cap - 1) c.entries)

  abbrev out : Option Pair → Option Pair
  out o = option_map_or (λ old. Some (k, old)) (option_map (λ e. e.1) o) (slice_get c.entries (c.cap - 1))

  after_recent : (o : Option Pair) → lookup_entry (same k) c.entries ≡ o → IsRecent (after o) c.cap
  after_recent None h = record {
    map = (
      λ m. not_found k c.entries h (taken_position (c.cap - 1) c.entries k m),
      taken_map (c.cap - 1) c.entries r.map,
    );
    fits = omega (arith, r.some_room, taken_length (c.cap - 1) c.entries);
    some_room = r.some_room;
  }
  after_recent (Some f) h = record {
    map = (
      λ m. gone k c.entries r.map (subst (λ p. Member p (positions (content_of (remove_entry (same k) c.entries))))
          (found k c.entries f h).0 m),
      removed_map k c.entries r.map,
    );
    fits = omega (arith, r.fits, removed_length k c.entries f h);
    some_room = r.some_room;
  }

  put_recent : IsRecent (put_entries same c k v) c.cap
  put_recent = after_recent (lookup_entry (same k) c.entries) refl

  apart : lookup_entry (same k) c.entries ≡ None → (e : Entry) → Member e (content_of c.entries) → e.position ≢ k
  apart h e m q = not_found k c.entries h (subst (λ p. Member p (positions (content_of c.entries))) q
      (position_held e (content_of c.entries) m))

  replaced : (f : Pair) → lookup_entry (same k) c.entries ≡ Some f
      → IsNote (content_of c.entries) k v.bounds Kept (content_of (after (Some f))) 0 0
  replaced f h = let at = (found k c.entries f h).0 in record {
    map_before = r.map;
    map = (after_recent (Some f) h).map;
    only = λ e m. elim m [
      | inl q ↦ inl (q ∙ ap (λ p. entry p v.bounds) at)
      | inr n ↦
          inr (removed_held k c.entries e r.map n)
    ];
    kept = λ q. inl (ap (λ p. entry p v.bounds) (sym at));
    missing = [];
    are_missing = none_missing (content_of c.entries) k v.bounds (content_of (after (Some f)))
        (inl (ap (λ p. entry p v.bounds) (sym at)))
        (λ e m. elim (removed_kept k c.entries e m) [ inl q ↦ inl q | inr n ↦ inr (inr n) ]);
    count = refl;
  }

  added : lookup_entry (same k) c.entries ≡ None → slice_get c.entries (c.cap - 1) ≡ None
      → IsNote (content_of c.entries) k v.bounds Kept (content_of (after None)) 0 0
  added h last = record {
    map_before = r.map;
    map = (after_recent None h).map;
    only = λ e m. elim m [
      | inl q ↦ inl q
      | inr n ↦ let was = taken_held (c.cap - 1) c.entries e n in
          inr (was, apart h e was)
    ];
    kept = λ q. inl refl;
    missing = [];
    are_missing = none_missing (content_of c.entries) k v.bounds (content_of (after None)) (inl refl)
        (λ e m. inr (inr (taken_all (c.cap - 1) c.entries e last m)));
    count = refl;
  }

  pushed_out : (d : Pair) → lookup_entry (same k) c.entries ≡ None → slice_get c.entries (c.cap - 1) ≡ Some d
      → IsNote (content_of c.entries) k v.bounds Kept (content_of (after None)) 0 1
  pushed_out d h last =
      let was = at_held (c.cap - 1) c.entries d last in
      let other = apart h (entry_of d) was in record {
        map_before = r.map;
        map = (after_recent None h).map;
        only = λ e m. elim m [
          | inl q ↦ inl q
          | inr n ↦ let was = taken_held (c.cap - 1) c.entries e n in
              inr (was, apart h e was)
        ];
        kept = λ q. inl refl;
        missing = entry_of d ∷ [];
        are_missing = one_missing (content_of c.entries) k v.bounds (content_of (after None)) (entry_of d) (inr (
          was,
          other,
        )) (λ m. elim m [
          | inl q ↦ other (ap (λ (e : Entry). e.position) q)
          | inr n ↦ at_apart (c.cap - 1) c.entries d r.map last
              (position_held (entry_of d) (content_of (take (c.cap - 1) c.entries)) n)
        ])
            (inl (inl refl))
            (λ e m. elim (taken_most (c.cap - 1) c.entries d e last (omega (arith, r.fits, r.some_room)) m)
            [ inl n ↦ inr (inl (inr n)) | inr q ↦ inr (inr q) ]);
        count = refl;
      }

  out-is : displaced same c k v ≡ out (lookup_entry (same k) c.entries)
  out-is = ap (λ o. option_map_or (λ old. Some (k, old)) o (slice_get c.entries (c.cap - 1)))
      (lookup-is (same k) c.entries)

  none_at : (o : Option Pair) → lookup_entry (same k) c.entries ≡ o → out o ≡ None
      → IsNote (content_of c.entries) k v.bounds Kept (content_of (after o)) 0 0
  none_at None h last = added h last
  none_at (Some f) h last = absurd (cc)

  same_at : (o : Option Pair) (d : Pair) → lookup_entry (same k) c.entries ≡ o → out o ≡ Some d → d.0 ≡ k
      → IsNote (content_of c.entries) k v.bounds Kept (content_of (after o)) 0 0
  same_at None d h last q = absurd (apart h (entry_of d) (at_held (c.cap - 1) c.entries d last) q)
  same_at (Some f) d h last q = replaced f h

  other_at : (o : Option Pair) (d : Pair) → lookup_entry (same k) c.entries ≡ o → out o ≡ Some d → d.0 ≢ k
      → IsNote (content_of c.entries) k v.bounds Kept (content_of (after o)) 0 1
  other_at None d h last other = pushed_out d h last
  other_at (Some f) d h last other = let s : (k, f.1) ≡ d = cc in absurd (other (ap (λ (e : Pair). e.0) (sym s)))

  -- no pair came out
  noted_none : displaced same c k v ≡ None
      → IsNote (content_of c.entries) k v.bounds Kept (content_of (put_entries same c k v)) 0 0
  noted_none h = none_at (lookup_entry (same k) c.entries) refl (sym out-is ∙ h)

  some_at : (o : Option Pair) (d : Pair) (b : Bool) → lookup_entry (same k) c.entries ≡ o → out o ≡ Some d
      → same d.0 k ≡ b → IsNote (content_of c.entries) k v.bounds Kept (content_of (after o)) 0 (from_bool (not b))
  some_at o d true h last q = same_at o d h last ((same-is d.0 k).0 q)
  some_at o d false h last q = other_at o d h last (λ e. let s = (same-is d.0 k).1 e in absurd (cc))

  -- a pair came out, the position's own one or another
  noted_some : (d : Pair) → displaced same c k v ≡ Some d
      → IsNote (content_of c.entries) k v.bounds Kept (content_of (put_entries same c k v)) 0 (from_bool (not (same d.0
      k)))
  noted_some d h = some_at (lookup_entry (same k) c.entries) d (same d.0 k) refl (sym out-is ∙ h) refl

  none_found : (o : Option Pair) → lookup_entry (same k) c.entries ≡ o → option_map (λ (e : Pair). e.1) o ≡ None
      → lookup_entry (same k) c.entries ≡ None
  none_found None q e = q
  none_found (Some f) q e = absurd (cc)

  -- memory was refused, which is never done where the position is held
  noted_nothing : (IsSome (lookup (same k) c.entries) → false ≡ true)
      → IsNote (content_of c.entries) k v.bounds NotKept (content_of c.entries) 0 1
  noted_nothing refused = unchanged (content_of c.entries) k v.bounds r.map
      (apart (none_found (lookup_entry (same k) c.entries) refl (sym (lookup-is (same k) c.entries)
      ∙ is_none (lookup (same k) c.entries) refused)))

-- ---- what a cache is after it was asked to put a pair in
module _ (c new : LruCache Placement Fact) (k : Placement) (v : Fact) (r : IsRecent c.entries c.cap) where
  pub recent_after : new ≡ lru_cache (put_entries same c k v) c.cap → IsRecent new.entries new.cap
  recent_after e = subst (λ (z : LruCache Placement Fact). IsRecent z.entries z.cap) (sym e) (put_recent c k v r)

  pub note_some : new ≡ lru_cache (put_entries same c k v) c.cap → (d : Placement × Fact) (n : ℕ)
      → displaced same c k v ≡ Some d → n ≡ from_bool (not (same d.0 k))
      → IsNote (content_of c.entries) k v.bounds Kept (content_of new.entries) 0 n
  note_some e d n h q =
      subst (λ (z : LruCache Placement Fact). IsNote (content_of c.entries) k v.bounds Kept (content_of z.entries) 0 n)
      (sym e)
      (subst (λ (m : ℕ). IsNote (content_of c.entries) k v.bounds Kept (content_of (put_entries same c k v)) 0 m) (sym
      q) (noted_some c k v r d h))

  pub note_none : new ≡ lru_cache (put_entries same c k v) c.cap → displaced same c k v ≡ None
      → IsNote (content_of c.entries) k v.bounds Kept (content_of new.entries) 0 0
  note_none e h = subst (λ (z : LruCache Placement Fact). IsNote (content_of c.entries) k v.bounds Kept
      (content_of z.entries) 0 0) (sym e) (noted_none c k v r h)

  pub note_refused : new ≡ c → (IsSome (lookup (same k) c.entries) → false ≡ true)
      → IsNote (content_of c.entries) k v.bounds NotKept (content_of new.entries) 0 1
  note_refused e h = subst (λ (z : LruCache Placement Fact). IsNote (content_of c.entries) k v.bounds NotKept
      (content_of z.entries) 0 1) (sym e) (noted_nothing c k v r h)

-- ---- the pair that was used longest ago is used again, and a pair with the same bounds takes its place
module _ (c new : LruCache Placement Fact) (d : Placement × Fact) (v : Fact) (r : IsRecent c.entries c.cap)
    (last : last_entry c.entries ≡ Some d) (alike : v.bounds ≡ d.1.bounds) where
  there : Member (entry_of d) (content_of c.entries)
  there = at_held (length c.entries - 1) c.entries d last

  aged_at : (o : Option Pair) → lookup_entry (same d.0) c.entries ≡ o
      → SameEntries (content_of c.entries) (content_of (after c d.0 v r o))
  aged_at None h = absurd (not_found d.0 c.entries h (position_held (entry_of d) (content_of c.entries) there))
  aged_at (Some f) h =
      let on = found d.0 c.entries f h in
      let one : entry_of f ≡ entry_of d = one_entry (content_of c.entries) r.map (entry_of f) (entry_of d) on.1 there
      on.0 in
      subst (λ b. SameEntries (content_of c.entries) (entry f.0 b ∷ content_of (remove_entry (same d.0) c.entries)))
      (ap (λ (x : Entry). x.bounds) one ∙ sym alike) (brought_same d.0 c.entries (Some f) h r.map)

  pub aged_same : new ≡ lru_cache (put_entries same c d.0 v) c.cap
      → SameEntries (content_of c.entries) (content_of new.entries)
  aged_same e = subst (λ (z : LruCache Placement Fact). SameEntries (content_of c.entries) (content_of z.entries))
      (sym e) (aged_at (lookup_entry (same d.0) c.entries) refl)

-- ---- a cache in which pairs were used again before a note
pub same_then : (a b c : Content) → SameEntries a b → SameEntries b c → SameEntries a c
same_then a b c h k e = ((λ m. (k e).0 ((h e).0 m)), (λ m. (h e).1 ((k e).1 m)))

pub nothing_kept : (old new : Content) (p : Placement) (b : Bounds) → IsMap old → IsMap new → SameEntries old new
    → (Member p (positions old) → ⊥) → IsNote old p b NotKept new 0 1
nothing_kept old new p b map map_new same none = noted_larger old new p b NotKept new 1 map same
    (unchanged new p b map_new (λ e m q. none (subst (λ x. Member x (positions old)) q
    (position_held e old ((same e).1 m)))))

pub not_contained : (k : Placement) (es : List (Placement × Fact)) → is_some (lookup (same k) es) ≡ false
    → Member k (positions (content_of es)) → ⊥
not_contained k es none = not_found k es (none_is (lookup_entry (same k) es) (sym (lookup-is (same k) es)) none)

pub noted_from : (old mid new : Content) (p : Placement) (b c : Bounds) (answer : Noted) (lost : ℕ) → IsMap old
    → SameEntries old mid → c ≡ b → IsNote mid p c answer new 0 lost → IsNote old p b answer new 0 lost
noted_from old mid new p b c answer lost map same is n = noted_larger old mid p b answer new lost map same
    (subst (λ x. IsNote mid p x answer new 0 lost) is n)
