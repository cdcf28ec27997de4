-- Two places side by side.
use Rattle.std.proofs.Common.{◌≡◌, ◌≢◌, ℕ, Bool, true, false, cond, ◌++◌, Option, Some, None, is_some, refl, sym, ◌∙◌}
use Rattle.std.proofs.Common.{subst, inl, inr}
use Rattle.dw_board.specs.Geometry.{Geometry}
use Rattle.dw_board.specs.Lists.{Member}
use Rattle.dw_board.specs.Placement.{Placement}
use Rattle.dw_board.specs.inner.PlacementLemmas.{same, same-is}
use Rattle.dw_memo.specs.declared.bounds.Bounds.{Bounds}
use Rattle.dw_memo.specs.declared.fact.Fact.{Fact}
use Rattle.dw_memo.specs.declared.memo.Noted.{Noted}
use Rattle.dw_memo.specs.declared.memo.Noted.TheVariants.{Kept, NotKept}
use Rattle.dw_memo.specs.declared.pair.Pair.{Pair}
use Rattle.dw_memo.specs.Content.{Entry, entry, Content, positions, IsMap, IsFound}
use Rattle.dw_memo.specs.Noting.{IsNote}
use Rattle.dw_memo.specs.inner.Pairs.{IsChoice}
use Rattle.dw_memo.specs.inner.Slots.{Place, standing}
use Rattle.dw_memo.specs.inner.Growing.{IsSplit}
use Rattle.dw_memo.specs.inner.Keeping.{bounds_in}
use Rattle.dw_memo.proofs.BesideLemmas.{appended, map_joined, map_apart, noted_before, noted_behind}
use Rattle.dw_memo.proofs.EntryLemmas.{position_held, bounds_held}
use Rattle.dw_memo.proofs.NoteLemmas.{unchanged}
use Rattle.dw_memo.proofs.SlotLemmas.{found, place_map}

-- ---- a look-up
found_as : (x : Place) (p : Placement) (o : Option Bounds) → bounds_in x p ≡ o → IsFound (standing x) p o
found_as x p o e = subst (IsFound (standing x) p) e (found x p)

absent : (x : Place) (p : Placement) → bounds_in x p ≡ None → Member p (positions (standing x)) → ⊥
absent x p e = found_as x p None e

pub found_first : (x y : Place) (p : Placement) (o : Option Bounds) (b : Bounds) → o ≡ bounds_in x p → o ≡ Some b
    → Member (entry p b) (standing x ++ standing y)
found_first x y p o b e q = (appended (standing x) (standing y)).first (entry p b)
    (found_as x p (Some b) (sym e ∙ q))

found_behind : (x y : Place) (p : Placement) (o : Option Bounds) → bounds_in x p ≡ None
    → IsFound (standing y) p o → IsFound (standing x ++ standing y) p o
found_behind x y p None none there = λ m.
    let b = bounds_held p (standing x ++ standing y) m in
    elim ((appended (standing x) (standing y)).each (entry p b.0) b.1) [
      | inl n ↦ absent x p none (position_held (entry p b.0) (standing x) n)
      | inr n ↦ there (position_held (entry p b.0) (standing y) n)
    ]
found_behind x y p (Some b) none there = (appended (standing x) (standing y)).second (entry p b) there

pub found_second : (x y : Place) (p : Placement) (o r : Option Bounds) → o ≡ bounds_in x p → o ≡ None
    → r ≡ bounds_in y p → IsFound (standing x ++ standing y) p r
found_second x y p o r e q is = found_behind x y p r (sym e ∙ q) (found_as y p r (sym is))

-- ---- a note
none_in : (o : Option Bounds) → is_some o ≡ false → o ≡ None
none_in None e = refl
none_in (Some b) e = absurd (cc)

some_in : (o : Option Bounds) → is_some o ≡ true → (b : Bounds) × (o ≡ Some b)
some_in None e = absurd (cc)
some_in (Some b) e = (b, refl)

pub not_kept : (x : Place) (p : Placement) (b : Bounds) → bounds_in x p ≡ None
    → IsNote (standing x) p b NotKept (standing x) 0 1
not_kept x p b none = unchanged (standing x) p b (place_map x)
    (λ e m q. absent x p none (subst (λ r. Member r (positions (standing x))) q
    (position_held e (standing x) m)))

-- a position that stands in one place does not stand in the other
elsewhere : (c : Content) (x : Place) (p : Placement) (b : Bounds)
    → ((e f : Entry) → Member e (standing x) → Member f c → e.position ≢ f.position) → bounds_in x p ≡ Some b
    → Member p (positions c) → ⊥
elsewhere c x p b apart some m =
    let h = bounds_held p c m in
    apart (entry p b) (entry p h.0) (found_as x p (Some b) some) h.1 refl

module _ (x y new : Place) (p : Placement) (b : Bounds) (answer : Noted) (lost : ℕ)
    (map : IsMap (standing x ++ standing y)) where
  pub own_first : is_some (bounds_in x p) ≡ true → IsNote (standing x) p b answer (standing new) 0 lost
      → IsNote (standing x ++ standing y) p b answer (standing new ++ standing y) 0 lost
  own_first some n =
      let s = some_in (bounds_in x p) some in
      noted_before (standing x) (standing new) (standing y) p b answer lost map
      (elsewhere (standing y) x p s.0 (map_apart (standing x) (standing y) map) s.1) n

  pub own_second : is_some (bounds_in x p) ≡ false → IsNote (standing y) p b answer (standing new) 0 lost
      → IsNote (standing x ++ standing y) p b answer (standing x ++ standing new) 0 lost
  own_second none n =
      noted_behind (standing y) (standing new) (standing x) p b answer lost map
      (absent x p (none_in (bounds_in x p) none)) n

module _ (x y lesser other : Place) (p : Placement) (b : Bounds) (answer : Noted) (lost : ℕ)
    (map : IsMap (standing x ++ standing y)) where
  pub new_first : is_some (bounds_in y p) ≡ false → standing other ≡ standing y
      → IsNote (standing x) p b answer (standing lesser) 0 lost
      → IsNote (standing x ++ standing y) p b answer (standing lesser ++ standing other) 0 lost
  new_first none stays n =
      subst (λ c. IsNote (standing x ++ standing y) p b answer (standing lesser ++ c) 0 lost) (sym stays)
      (noted_before (standing x) (standing lesser) (standing y) p b answer lost map
      (absent y p (none_in (bounds_in y p) none)) n)

  pub new_second : is_some (bounds_in x p) ≡ false → standing other ≡ standing x
      → IsNote (standing y) p b answer (standing lesser) 0 lost
      → IsNote (standing x ++ standing y) p b answer (standing other ++ standing lesser) 0 lost
  new_second none stays n =
      subst (λ c. IsNote (standing x ++ standing y) p b answer (c ++ standing lesser) 0 lost) (sym stays)
      (own_second x y lesser p b answer lost map none n)

-- ---- what is given up
is_own : (e : Placement × Fact) (p : Placement) (o : Bool) → same e.0 p ≡ o
    → is_some (cond o (Some e.1.bounds) None) ≡ true → e.0 ≡ p
is_own e p true is some = (same-is e.0 p).0 is
is_own e p false is some = absurd (cc)

holds_own : (x : Place) (p : Placement) (e : Placement × Fact) → is_some (bounds_in x p) ≡ true → x ≡ Some e
    → e.0 ≡ p
holds_own x p e some is = is_own e p (same e.0 p) refl
    (subst (λ (y : Place). is_some (bounds_in y p) ≡ true) is some)

stands_there : (x : Place) (e : Placement × Fact) → x ≡ Some e → Member (entry e.0 e.1.bounds) (standing x)
stands_there x e is = subst (λ (y : Place). Member (entry e.0 e.1.bounds) (standing y)) (sym is) (inl refl)

module _ {B : Type 0} (first second new : Place) (p : Placement) (b : Bounds) (answer : Noted) (kept : answer ≡ Kept)
  where
    abbrev old : Pair B
    old = record { first = first; second = second }

    pub own_first_choice : is_some (bounds_in first p) ≡ true
        → IsChoice {B = B} old p b answer (record { first = new; second = second })
    own_first_choice some = record {
      first = λ e is. inr (inl (holds_own first p e some is));
      second = λ e is. inl ((appended (standing new) (standing second)).second (entry e.0 e.1.bounds)
          (stands_there second e is));
      given = λ q. absurd (cc (kept, q));
    }

    pub own_second_choice : is_some (bounds_in second p) ≡ true
        → IsChoice {B = B} old p b answer (record { first = first; second = new })
    own_second_choice some = record {
      first = λ e is. inl ((appended (standing first) (standing new)).first (entry e.0 e.1.bounds)
          (stands_there first e is));
      second = λ e is. inr (inl (holds_own second p e some is));
      given = λ q. absurd (cc (kept, q));
    }

-- ---- a table that doubles
pub split_both : (g : Geometry) (n k : ℕ) (c d cl dl ch dh : Content) → IsMap (c ++ d) → IsSplit g n k c cl ch
    → IsSplit g n k d dl dh → IsSplit g n k (c ++ d) (cl ++ dl) (ch ++ dh)
split_both g n k c d cl dl ch dh map s t =
    let apart = map_apart c d map in
    record {
      low_map = map_joined cl dl s.low_map t.low_map
          (λ e f a b. apart e f (s.low_are e a).0 (t.low_are f b).0);
      high_map = map_joined ch dh s.high_map t.high_map
          (λ e f a b. apart e f (s.high_are e a).0 (t.high_are f b).0);
      low_are = λ e m. elim ((appended cl dl).each e m) [
        | inl h ↦ ((appended c d).first e (s.low_are e h).0, (s.low_are e h).1)
        | inr h ↦ ((appended c d).second e (t.low_are e h).0, (t.low_are e h).1)
      ];
      high_are = λ e m. elim ((appended ch dh).each e m) [
        | inl h ↦ ((appended c d).first e (s.high_are e h).0, (s.high_are e h).1)
        | inr h ↦ ((appended c d).second e (t.high_are e h).0, (t.high_are e h).1)
      ];
      each = λ e m. elim ((appended c d).each e m) [
        | inl h ↦ elim (s.each e h) [
          | inl a ↦ inl ((appended cl dl).first e a)
          | inr a ↦ inr ((appended ch dh).first e a)
        ]
        | inr h ↦ elim (t.each e h) [
          | inl a ↦ inl ((appended cl dl).second e a)
          | inr a ↦ inr ((appended ch dh).second e a)
        ]
      ];
    }
