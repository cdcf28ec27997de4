-- The steps of a search: nothing, one after another, a note, and one expansion that ends or is cut off.
use Rattle.std.proofs.Common.{◌≡◌, ℕ, ◌+◌, ◌-◌, ◌^◌, ◌<◌, ◌≤◌, zero, suc, List, [], ◌∷◌, ◌++◌, length, refl, sym, ap}
use Rattle.std.proofs.Common.{◌∙◌, subst, ◌⊎◌, inl, inr, arith, Some, Bool, true, false, length-append, Result, Ok, Err}
use Rattle.std.proofs.Common.{IsErr, IsErrOf}
use Rattle.std.specs.Result.{IsErrAnd}
use Rattle.dw_solve.specs.declared.stop.Stop.{Stop}
use Rattle.dw_solve.specs.declared.stop.Stop.TheVariants.{Limit}
use Rattle.std.specs.Prelude.{max, min, cond}
use Rattle.std.proofs.lemmas.Bool.{cases_lt, true≢false}
use Rattle.dw_board.specs.Geometry.{Geometry}
use Rattle.dw_board.specs.Placement.{Placement}
use Rattle.dw_moves.specs.Moves.{Move, Legal, play}
use Rattle.dw_memo.specs.declared.bounds.Bounds.{Bounds}
use Rattle.dw_memo.specs.declared.memo.Noted.{Noted}
use Rattle.dw_memo.specs.Bounding.{at_least, at_most, with_fail, with_win}
use Rattle.dw_memo.specs.Content.{Entry, entry, Content, positions, IsMap, SameEntries}
use Rattle.dw_board.specs.Lists.{Member}
use Rattle.dw_memo.specs.Noting.{IsPutIn, IsNote, IsOneLost}
use Rattle.dw_moves.specs.inner.MemberLemmas as laws
use Rattle.dw_solve.specs.Facts.{KnownWin, KnownFail, IsDecided, IsClosed}
use Rattle.dw_solve.specs.inner.Searching.{HasBounds, IsNoted, SaysMove}
use Rattle.dw_solve.specs.Work.{Moment, Stronger, decided_to, FewNew, LossIsCounted, NothingLost, Worked, Searched}
use Rattle.dw_solve.specs.Work.{cut_off, moment}
use Rattle.dw_solve.specs.Certificates.{SaysWin}
use Rattle.dw_solve.proofs.MemoLemmas.{option_cases, mem_map, same_entry, same_win, same_fail}
use Rattle.dw_solve.proofs.CountingLemmas.{decided_grows, decided_rises, decided_to_grows}

-- NOTHING, AND ONE AFTER ANOTHER

stronger_none : (c : Content) → Stronger c c
stronger_none c = record { wins = λ p n h. h; fails = λ p n h. h }

stronger_then : (a m c : Content) → Stronger a m → Stronger m c → Stronger a c
stronger_then a m c s t = record {
  wins = λ p n h. t.wins p n (s.wins p n h);
  fails = λ p n h. t.fails p n (s.fails p n h);
}

counted_none : (l : ℕ) → LossIsCounted l l
counted_none l = record { rises = λ h. omega arith; within = λ h. h }

counted_then : (a b c : ℕ) → LossIsCounted a b → LossIsCounted b c → LossIsCounted a c
counted_then a b c h k = record {
  rises = λ l. let f = h.rises l in let s = k.rises (h.within l) in omega (arith, f, s);
  within = λ l. k.within (h.within l);
}

-- where nothing was lost in two searches, nothing was lost in either
pub first_kept : (a m c : Moment) → LossIsCounted a.lost m.lost → LossIsCounted m.lost c.lost → NothingLost a c
    → NothingLost a m
first_kept a m c h k n =
    let low : a.lost < 2 ^ 64 = omega (arith, n.0, n.1) in
    let f = h.rises low in
    let s = k.rises (h.within low) in
    (omega (arith, f, s, n.0), omega (arith, f, s, n.0, n.1))

pub second_kept : (a m c : Moment) → LossIsCounted a.lost m.lost → LossIsCounted m.lost c.lost → NothingLost a c
    → NothingLost m c
second_kept a m c h k n = let f = first_kept a m c h k n in (sym f.0 ∙ n.0, n.1)

few_none : (a : Moment) → FewNew a a
few_none a = record { positions = []; few = omega arith; all = λ e m. inl m }

few_then : (a m c : Moment) → FewNew a m → FewNew m c → FewNew a c
few_then a m c f g = record {
  positions = f.positions ++ g.positions;
  few = omega (arith, f.few, g.few, length-append f.positions g.positions);
  all = λ e h. elim (g.all e h) [
    | inl k ↦ elim (f.all e k) [ inl o ↦ inl o | inr n ↦ inr (laws.mem_left e.position f.positions g.positions n) ]
    | inr n ↦ inr (laws.mem_right e.position f.positions g.positions n)
  ];
}

worked_then : (g : Geometry) (n s t : ℕ) (a m c : Moment) → Worked g n s a m → Worked g n t m c → Worked g n (s + t) a c
worked_then g n s t a m c v w = record {
  stronger = stronger_then a.content m.content c.content v.stronger w.stronger;
  closed = λ h. w.closed (v.closed h);
  growth = λ k h. let x = v.growth k h in let y = w.growth k h in omega (arith, x, y);
}

pub searched_none : (g : Geometry) (n cut : ℕ) (a : Moment) → Searched g n cut a a
searched_none g n cut a = record {
  few = few_none a;
  counted = counted_none a.lost;
  worked = λ kept. record { stronger = stronger_none a.content; closed = λ h. h; growth = λ k h. omega arith };
}

pub searched_then : (g : Geometry) (n s t : ℕ) (a m c : Moment) → Searched g n s a m → Searched g n t m c
    → Searched g n (s + t) a c
searched_then g n s t a m c v w = record {
  few = few_then a m c v.few w.few;
  counted = counted_then a.lost m.lost c.lost v.counted w.counted;
  worked = λ kept. worked_then g n s t a m c (v.worked (first_kept a m c v.counted w.counted kept))
      (w.worked (second_kept a m c v.counted w.counted kept));
}

-- a search for fewer moves is one for more
pub searched_wider : (g : Geometry) (n k cut : ℕ) (a c : Moment) → n ≤ k → Searched g n cut a c → Searched g k cut a c
searched_wider g n k cut a c wide s = record {
  few = s.few;
  counted = s.counted;
  worked = λ kept. let w = s.worked kept in record {
    stronger = w.stronger;
    closed = w.closed;
    growth = λ i h. w.growth i (omega (arith, wide, h));
  };
}

-- a stop may have cut off more
pub searched_looser : (g : Geometry) (n cut more : ℕ) (a c : Moment) → cut ≤ more → Searched g n cut a c
    → Searched g n more a c
searched_looser g n cut more a c less s = record {
  few = s.few;
  counted = s.counted;
  worked = λ kept. let w = s.worked kept in record {
    stronger = w.stronger;
    closed = w.closed;
    growth = λ i h. let r = w.growth i h in omega (arith, r, less);
  };
}

-- which stop it is
pub err_is : {B : Type 0} (d : Stop) → IsErrOf {T = B} (Err d) Limit → d ≡ Limit
err_is d same = cc

-- at a stop
pub searched_stop : {A E : Type 0} (g : Geometry) (n : ℕ) (r : Result A E) (a c : Moment) → IsErr r → Searched g n n a c
    → Searched g n (cut_off r n) a c
searched_stop g n (Ok x) a c e s = absurd (true≢false (sym e))
searched_stop g n (Err x) a c e s = s

-- what holds at the limit still does where a stop is handed on
pub stop_passed : {A B : Type 0} (e : Stop) (r : Result B Stop) (P : Type 0) → IsErrAnd r (λ d. d ≡ e)
    → (IsErrOf {T = A} (Err e) Limit → P) → IsErrOf r Limit → P
stop_passed e (Ok x) P is h o = absurd is
stop_passed e (Err d) P is h o = h (ap (λ z. Err z) (sym is ∙ err_is d o))

-- the same entries in another order
stronger_same : (c d : Content) → SameEntries c d → Stronger c d
stronger_same c d same =
    let back : SameEntries d c = λ e. ((same e).1, (same e).0) in
    record { wins = λ p n. same_win d c back p n; fails = λ p n. same_fail d c back p n }

-- bounds were left out, which counts as a loss
pub left_out_loses : (a c : Moment) → IsOneLost a.lost c.lost → NothingLost a c → ⊥
left_out_loses a c one kept = omega (arith, one, kept.0, kept.1)

pub searched_left_out : (g : Geometry) (n cut : ℕ) (a c : Moment) → SameEntries a.content c.content
    → IsOneLost a.lost c.lost → a.expanded ≤ c.expanded → Searched g n cut a c
searched_left_out g n cut a c same one rises = record {
  few = record { positions = []; few = omega (arith, rises); all = λ e m. inl ((same e).1 m) };
  counted = record { rises = λ h. omega (arith, one, h); within = λ h. omega (arith, one, h) };
  worked = λ kept. absurd (left_out_loses a c one kept);
}

pub searched_same : (g : Geometry) (n cut : ℕ) (a c : Moment) → IsMap a.content → SameEntries a.content c.content
    → a.lost ≡ c.lost → a.expanded ≡ c.expanded → Searched g n cut a c
searched_same g n cut a c u same lost expanded =
    let s = stronger_same a.content c.content same in
    record {
      few = record { positions = []; few = omega (arith, expanded); all = λ e m. inl ((same e).1 m) };
      counted = subst (LossIsCounted a.lost) lost (counted_none a.lost);
      worked = λ kept. record {
        stronger = s;
        closed = same_closed g a.content c.content s (λ e m. (same e).1 m);
        growth = λ k h. let grows = decided_to_grows a.content c.content k u s in omega (arith, grows, expanded);
      };
    } where
      same_closed : (g : Geometry) (c d : Content) → Stronger c d → ((e : Entry) → Member e d → Member e c)
          → IsClosed g c → IsClosed g d
      same_closed g c d s back h = record {
        wins = λ e m w is. let k = h.wins e (back e m) w is in (k.0, k.1, k.2, λ r l. s.wins _ _ (k.3 r l));
        fails = λ e m f is some n l. let k = h.fails e (back e m) f is some n l in
            (k.0, k.1, elim k.2 [ inl e ↦ inl e | inr b ↦ inr (s.fails _ _ b) ]);
      }

-- A NOTE, BY A MEMO THAT LOSES NOTHING

-- the entry is put in, and every other one stays
record IsPut (old : Content) (p : Placement) (b : Bounds) (new : Content) : Type 0 where
  here : Member (entry p b) new
  only : (e : Entry) → Member e new → (e ≡ entry p b) ⊎ Member e old
  kept : (e : Entry) → Member e old → (e.position ≡ p) ⊎ Member e new

none_in : {X : Type 0} (x : X) (xs : List X) → length xs ≡ 0 → Member x xs → ⊥
none_in x [] e m = m
none_in x (y ∷ xs) e m = omega arith

pub note_counted : (old new : Content) (p : Placement) (b : Bounds) (answer : Noted) (d d' : ℕ)
    → IsNote old p b answer new d d' → LossIsCounted d d'
note_counted old new p b answer d d' n = let c = n.count in record {
  rises = λ h. omega (arith, c);
  within =
      λ h. omega (arith, c);
}

noted_put : (old new : Content) (p : Placement) (b : Bounds) (answer : Noted) (d d' : ℕ)
    → IsNote old p b answer new d d' → d ≡ d' → d' < 2 ^ 64 - 1 → IsPut old p b new
noted_put old new p b answer d d' n same below =
    let c = n.count in
    let none : length n.missing ≡ 0 = omega (arith, c, same, below) in
    record {
      here = elim n.are_missing.given [ inl h ↦ h | inr m ↦ absurd (none_in (entry p b) n.missing none m) ];
      only = λ e m. elim (n.only e m) [ inl q ↦ inl q | inr o ↦ inr o.0 ];
      kept = λ e m. elim (n.are_missing.others e m) [
        | inl q ↦ inl q
        | inr (inl h) ↦ inr h
        | inr (inr h) ↦
            absurd (none_in e n.missing none h)
      ];
    }

-- bounds that say at least as much
record Extends (had has : Bounds) : Type 0 where
  fails : (f : ℕ) → had.fails ≡ Some f → (h : ℕ) × (has.fails ≡ Some h) × (f ≤ h)
  wins : (w : ℕ) → had.wins ≡ Some w → (v : ℕ) × (has.wins ≡ Some v) × (v ≤ w)

fail_extends : (had : Bounds) (n : ℕ) → Extends had (with_fail had n)
fail_extends had n = record {
  fails = λ f e. (max f n, ap (λ o. at_least o n) e, omega arith);
  wins = λ w e. (w, e, omega arith);
}

win_extends : (had : Bounds) (n : ℕ) → Extends had (with_win had n)
win_extends had n = record {
  fails = λ f e. (f, e, omega arith);
  wins = λ w e. (min w n, ap (λ o. at_most o n) e, omega arith);
}

-- the bounds that an entry of the position has
bounds_are : (c : Content) (p : Placement) (had : Bounds) (e : Entry) → IsMap c → HasBounds c p had → Member e c
    → e.position ≡ p → e.bounds ≡ had
bounds_are c p had e u (inl here) m q = ap (λ (e : Entry). e.bounds) (same_entry c e (entry p had) u m here q)
bounds_are c p had e u (inr none) m q =
    absurd (none.1 (subst (λ z. Member z (positions c)) q (mem_map (λ (e : Entry). e.position) e c m)))

put_stronger : (old new : Content) (p : Placement) (had has : Bounds) → IsMap old → HasBounds old p had
    → Extends had has → IsPut old p has new → Stronger old new
put_stronger old new p had has u held more put = record {
  fails = λ q f h. elim (put.kept h.entry h.held) [
    | inl at_p ↦
        let is : had.fails ≡ Some h.bound = ap (λ (b : Bounds). b.fails)
        (sym (bounds_are old p had h.entry u held h.held at_p)) ∙ h.is in
        let k = more.fails h.bound is in
        record {
          entry = entry p has;
          held = put.here;
          about = sym at_p ∙ h.about;
          bound = k.0;
          is = k.1;
          enough =
              omega (arith, k.2, h.enough);
        }
    | inr m ↦ record { entry = h.entry; held = m; about = h.about; bound = h.bound; is = h.is; enough = h.enough }
  ];
  wins = λ q w h. elim (put.kept h.entry h.held) [
    | inl at_p ↦
        let is : had.wins ≡ Some h.bound = ap (λ (b : Bounds). b.wins)
        (sym (bounds_are old p had h.entry u held h.held at_p)) ∙ h.is in
        let k = more.wins h.bound is in
        record {
          entry = entry p has;
          held = put.here;
          about = sym at_p ∙ h.about;
          bound = k.0;
          is = k.1;
          enough =
              omega (arith, k.2, h.enough);
        }
    | inr m ↦ record { entry = h.entry; held = m; about = h.about; bound = h.bound; is = h.is; enough = h.enough }
  ];
}

-- WHAT CLOSED MEANS OF ONE POSITION'S BOUNDS

abbrev WinFollows : Geometry → Content → Placement → ℕ → Type 0
WinFollows g c p w = (1 ≤ w) × (m : Move) × Legal g p m × ((r : Move) → Legal g (play g p m) r
    → KnownWin c (play g (play g p m) r) (w - 1))

abbrev FailFollows : Geometry → Content → Placement → ℕ → Type 0
FailFollows g c p f = 0 < f → (m : Move) → Legal g p m → (r : Move) × Legal g (play g p m) r
    × ((f ≡ 1) ⊎ KnownFail c (play g (play g p m) r) (f - 1))

win_later : (g : Geometry) (c d : Content) (p : Placement) (w : ℕ) → Stronger c d → WinFollows g c p w
    → WinFollows g d p w
win_later g c d p w s h = (h.0, h.1, h.2, λ r l. s.wins (play g (play g p h.1) r) (w - 1) (h.3 r l))

fail_later : (g : Geometry) (c d : Content) (p : Placement) (f : ℕ) → Stronger c d → FailFollows g c p f
    → FailFollows g d p f
fail_later g c d p f s h some m l = let k = h some m l in
    (k.0, k.1, elim k.2 [ inl e ↦ inl e | inr b ↦ inr (s.fails (play g (play g p m) k.0) (f - 1) b) ])

put_closed : (g : Geometry) (old new : Content) (p : Placement) (has : Bounds) → IsClosed g old → Stronger old new
    → IsPut old p has new → ((w : ℕ) → has.wins ≡ Some w → WinFollows g new p w)
    → ((f : ℕ) → has.fails ≡ Some f → FailFollows g new p f) → IsClosed g new
put_closed g old new p has closed s put wins fails = record {
  wins = λ e m w is. elim (put.only e m) [
    | inl q ↦
        let here = wins w (ap (λ (e : Entry). e.bounds.wins) (sym q) ∙ is) in
        subst (λ z. WinFollows g new z w) (ap (λ (e : Entry). e.position) (sym q)) here
    | inr m' ↦ win_later g old new e.position w s (closed.wins e m' w is)
  ];
  fails = λ e m f is. elim (put.only e m) [
    | inl q ↦
        let here = fails f (ap (λ (e : Entry). e.bounds.fails) (sym q) ∙ is) in
        subst (λ z. FailFollows g new z f) (ap (λ (e : Entry). e.position) (sym q)) here
    | inr m' ↦ fail_later g old new e.position f s (closed.fails e m' f is)
  ];
}

-- what the bounds before the note say follows
had_win : (g : Geometry) (c : Content) (p : Placement) (had : Bounds) → IsClosed g c → HasBounds c p had → (w : ℕ)
    → had.wins ≡ Some w → WinFollows g c p w
had_win g c p had closed (inl here) w is = closed.wins (entry p had) here w is
had_win g c p had closed (inr none) w is = let q = ap (λ (b : Bounds). b.wins) none.0 in absurd (cc)

had_fail : (g : Geometry) (c : Content) (p : Placement) (had : Bounds) → IsClosed g c → HasBounds c p had → (f : ℕ)
    → had.fails ≡ Some f → FailFollows g c p f
had_fail g c p had closed (inl here) f is = closed.fails (entry p had) here f is
had_fail g c p had closed (inr none) f is = let q = ap (λ (b : Bounds). b.fails) none.0 in absurd (cc)

some_is : {A : Type 0} (x y : A) → Some x ≡ Some y → x ≡ y
some_is x y e = cc

-- A NOTE OF AN ANSWER

win_follows : (g : Geometry) (c : Content) (p : Placement) (n : ℕ) → SaysMove g c p n true → WinFollows g c p (suc n)
win_follows g c p n h =
    let k = h.when refl in
    let e : suc n - 1 ≡ n = omega arith in
    (omega arith, k.0, k.1, λ r l. subst (KnownWin c (play g (play g p k.0) r)) (sym e) (k.2 r l))

fail_follows : (g : Geometry) (c : Content) (p : Placement) (n : ℕ) → SaysMove g c p n false → FailFollows g c p (suc n)
fail_follows g c p n h some m l =
    let k = h.unless (λ q. true≢false (sym q)) m l in
    let e : suc n - 1 ≡ n = omega arith in (
      k.0,
      k.1,
      elim k.2 [
        | inl z ↦ inl (ap suc z)
        | inr b ↦ inr (subst (KnownFail c (play g (play g p m) k.0)) (sym e) b)
      ],
    )

fail_note_closed : (g : Geometry) (old new : Content) (p : Placement) (had : Bounds) (n : ℕ) → Stronger old new
    → IsClosed g old → HasBounds old p had → IsPut old p (with_fail had (suc n)) new → FailFollows g old p (suc n)
    → IsClosed g new
fail_note_closed g old new p had n s closed held put follows =
    put_closed g old new p (with_fail had (suc n)) closed s put
    (λ w is. win_later g old new p w s (had_win g old p had closed held w is))
    (λ f is. fail_later g old new p f s (elim (option_cases had.fails) [
      | inl none ↦
          let q : Some (suc n) ≡ Some f = sym (ap (λ o. at_least o (suc n)) none) ∙ is in
          subst (FailFollows g old p) (some_is (suc n) f q) follows
      | inr k ↦
          let q : Some (max k.0 (suc n)) ≡ Some f = sym (ap (λ o. at_least o (suc n)) k.1) ∙ is in
          let f_is : max k.0 (suc n) ≡ f = some_is (max k.0 (suc n)) f q in
          elim (cases_lt k.0 (suc n)) [
            | inl l ↦ let e : suc n ≡ f = omega arith in subst (FailFollows g old p) e follows
            | inr l ↦ let e : k.0 ≡ f = omega arith in subst (FailFollows g old p) e
                (had_fail g old p had closed held k.0 k.1)
          ]
    ]))

win_note_closed : (g : Geometry) (old new : Content) (p : Placement) (had : Bounds) (n : ℕ) → Stronger old new
    → IsClosed g old → HasBounds old p had → IsPut old p (with_win had (suc n)) new → WinFollows g old p (suc n)
    → IsClosed g new
win_note_closed g old new p had n s closed held put follows =
    put_closed g old new p (with_win had (suc n)) closed s put
    (λ w is. win_later g old new p w s (elim (option_cases had.wins) [
      | inl none ↦
          let q : Some (suc n) ≡ Some w = sym (ap (λ o. at_most o (suc n)) none) ∙ is in
          subst (WinFollows g old p) (some_is (suc n) w q) follows
      | inr k ↦
          let q : Some (min k.0 (suc n)) ≡ Some w = sym (ap (λ o. at_most o (suc n)) k.1) ∙ is in
          let w_is : min k.0 (suc n) ≡ w = some_is (min k.0 (suc n)) w q in
          elim (cases_lt (suc n) k.0) [
            | inl l ↦ let e : suc n ≡ w = omega arith in subst (WinFollows g old p) e follows
            | inr l ↦ let e : k.0 ≡ w = omega arith in subst (WinFollows g old p) e (had_win g old p had closed held k.0
                k.1)
          ]
    ]))
    (λ f is. fail_later g old new p f s (had_fail g old p had closed held f is))

-- an answer that was noted is known
fail_known : (c : Content) (p : Placement) (had : Bounds) (n : ℕ) → Member (entry p (with_fail had n)) c
    → KnownFail c p n
fail_known c p had n here = elim (option_cases had.fails) [
  | inl none ↦ record {
    entry = entry p (with_fail had n);
    held = here;
    about = refl;
    bound = n;
    is =
        ap (λ o. at_least o n) none;
    enough = omega arith;
  }
  | inr k ↦ record {
    entry = entry p (with_fail had n);
    held = here;
    about = refl;
    bound = max k.0 n;
    is =
        ap (λ o. at_least o n) k.1;
    enough = omega arith;
  }
]

win_known : (c : Content) (p : Placement) (had : Bounds) (n : ℕ) → Member (entry p (with_win had n)) c → KnownWin c p n
win_known c p had n here = elim (option_cases had.wins) [
  | inl none ↦ record {
    entry = entry p (with_win had n);
    held = here;
    about = refl;
    bound = n;
    is =
        ap (λ o. at_most o n) none;
    enough = omega arith;
  }
  | inr k ↦ record {
    entry = entry p (with_win had n);
    held = here;
    about = refl;
    bound = min k.0 n;
    is =
        ap (λ o. at_most o n) k.1;
    enough = omega arith;
  }
]

-- what a note leaves, where nothing is lost by it
record IsKept (g : Geometry) (p : Placement) (n : ℕ) (won : Bool) (old new : Content) : Type 0 where
  stronger : Stronger old new
  closed : SaysMove g old p n won → IsClosed g old → IsClosed g new
  says : SaysWin new p (suc n) won
  decided : IsDecided new p (suc n)

note_kept : (g : Geometry) (old new : Content) (p : Placement) (had : Bounds) (n : ℕ) (won : Bool) → IsMap old
    → HasBounds old p had → IsPut old p (cond won (with_win had (suc n)) (with_fail had (suc n))) new
    → IsKept g p n won old new
note_kept g old new p had n true u held put =
    let s = put_stronger old new p had (with_win had (suc n)) u held (win_extends had (suc n)) put in
    let known = win_known new p had (suc n) put.here in
    record {
      stronger = s;
      closed = λ h closed. win_note_closed g old new p had n s closed held put (win_follows g old p n h);
      says = record { when = λ _. known; unless = λ q. absurd (q refl) };
      decided = inl known;
    }
note_kept g old new p had n false u held put =
    let s = put_stronger old new p had (with_fail had (suc n)) u held (fail_extends had (suc n)) put in
    let known = fail_known new p had (suc n) put.here in
    record {
      stronger = s;
      closed = λ h closed. fail_note_closed g old new p had n s closed held put (fail_follows g old p n h);
      says = record { when = λ q. absurd (true≢false (sym q)); unless = λ _. inr known };
      decided = inr known;
    }

-- AN EXPANSION

-- one more position is expanded
abbrev pub begun : Moment → Moment
begun a = record { content = a.content; lost = a.lost; expanded = a.expanded + 1 }

few_begun : (b c : Moment) → FewNew (begun b) c → FewNew b c
few_begun b c f = record { positions = f.positions; few = omega (arith, f.few); all = f.all }

-- One that is cut off: one more that is not decided.
pub expansion_stopped : (g : Geometry) (n cut : ℕ) (a b c : Moment) → Searched g 0 0 a b → Searched g n cut (begun b) c
    → Searched g (suc n) (suc cut) a c
expansion_stopped g n cut a b c v w = record {
  few = few_then a b c v.few (few_begun b c w.few);
  counted = counted_then a.lost b.lost c.lost v.counted w.counted;
  worked = λ kept.
      let x = v.worked (first_kept a b c v.counted w.counted kept) in
      let y = w.worked (second_kept a b c v.counted w.counted kept) in
      record {
        stronger = stronger_then a.content b.content c.content x.stronger y.stronger;
        closed = λ h. y.closed (x.closed h);
        growth = λ k h. let i = x.growth k (omega arith) in let j = y.growth k (omega (arith, h)) in
            omega (arith, i, j);
      };
}

-- the note at the end of an expansion
-- a note over the same entries in another order
note_before : (old mid new : Content) (p : Placement) (b : Bounds) (answer : Noted) (d d' : ℕ) → IsMap old
    → SameEntries old mid → IsNote mid p b answer new d d' → IsNote old p b answer new d d'
note_before old mid new p b answer d d' u same n = record {
  map_before = u;
  map = n.map;
  only = λ e m. put_in e (n.only e m);
  kept = n.kept;
  missing = n.missing;
  are_missing = record {
    each_once = n.are_missing.each_once;
    only = λ e m. let k = n.are_missing.only e m in (put_in e k.0, k.1);
    given = n.are_missing.given;
    others = λ e m. n.are_missing.others e ((same e).0 m);
  };
  count = n.count;
} where
  put_in : (e : Entry) → IsPutIn mid p b e → IsPutIn old p b e
  put_in e (inl q) = inl q
  put_in e (inr o) = inr ((same e).1 o.0, o.1)

pub noted_by : (p : Placement) (n : ℕ) (won : Bool) (before after : Moment) (mid : Content) (had b : Bounds)
    (answer : Noted) (lost : ℕ) → IsMap before.content → HasBounds before.content p had → SameEntries before.content mid
    → lost ≡ before.lost → b ≡ cond won (with_win had n) (with_fail had n)
    → IsNote mid p b answer after.content lost after.lost → before.expanded ≡ after.expanded
    → IsNoted p n won before after
noted_by p n won before after mid had b answer lost u held same loss b_is note expanded = record {
  had = had;
  held = held;
  answer = answer;
  note = note_before before.content mid after.content p _ answer before.lost after.lost u same
      (subst (λ z. IsNote mid p z answer after.content before.lost after.lost) b_is
      (subst (λ z. IsNote mid p b answer after.content z after.lost) loss note));
  expanded = expanded;
}

few_noted : (p : Placement) (n : ℕ) (won : Bool) (b m c : Moment) → FewNew (begun b) m → IsNoted p n won m c
    → FewNew b c
few_noted p n won b m c f noted = record {
  positions = p ∷ f.positions;
  few = omega (arith, f.few, noted.expanded);
  all = λ e h. elim (noted.note.only e h) [
    | inl q ↦ inr (inl (ap (λ (e : Entry). e.position) q))
    | inr o ↦ elim (f.all e o.0) [ inl old ↦ inl old | inr new ↦ inr (inr new) ]
  ];
}

-- what is decided up to n has grown so much, and so what is decided up to more
grown_on : (a c : Content) (e f n k : ℕ) → IsMap a → Stronger a c → e + decided_to a n ≤ f + decided_to c n → n ≤ k
    → e + decided_to a k ≤ f + decided_to c k
grown_on a c e f n zero u s h wide = let z : n ≡ 0 = omega (arith, wide) in subst (λ z. e + decided_to a z
    ≤ f + decided_to c z) z h
grown_on a c e f n (suc k) u s h wide = elim (split n k wide) [
  | inl same ↦ subst (λ z. e + decided_to a z ≤ f + decided_to c z) same h
  | inr less ↦ let r = grown_on a c e f n k u s h less in omega (arith, r, decided_grows a c (suc k) u s)
] where
  split : (n k : ℕ) → n ≤ suc k → (n ≡ suc k) ⊎ (n ≤ k)
  split n k h = grind arith

expansion_worked : (g : Geometry) (n : ℕ) (p : Placement) (won : Bool) (a b m c : Moment)
    → (IsDecided a.content p (suc n) → ⊥) → IsMap a.content → Worked g 0 0 a b → Worked g n 0 (begun b) m
    → SaysMove g m.content p n won → IsKept g p n won m.content c.content → m.expanded ≡ c.expanded → IsMap m.content
    → Worked g (suc n) 0 a c
expansion_worked g n p won a b m c unknown u x y says z same um =
    let all = stronger_then a.content b.content c.content x.stronger (stronger_then b.content m.content c.content
    y.stronger z.stronger) in
    let below : c.expanded + decided_to a.content n ≤ a.expanded + 1 + decided_to c.content n =
    let i = x.growth n (omega arith) in
    let j = y.growth n (omega arith) in
    omega (arith, i, j, same, decided_to_grows m.content c.content n um z.stronger) in
    let here : c.expanded + decided_to a.content (suc n) ≤ a.expanded + decided_to c.content (suc n) =
    omega (arith, below, decided_rises a.content c.content p (suc n) u all unknown z.decided) in
    record {
      stronger = all;
      closed = λ h. z.closed says (y.closed (x.closed h));
      growth = λ k wide. let r = grown_on a.content c.content c.expanded a.expanded (suc n) k u all here wide in
          omega (arith, r);
    }

-- One that ends: it began undecided, searched with fewer moves, and notes its answer.
pub record Ended (g : Geometry) (n : ℕ) (p : Placement) (won : Bool) (a c : Moment) : Type 0 where
  pub searched : Searched g n 0 a c
  pub says : NothingLost a c → SaysWin c.content p n won

pub expansion_ended : (g : Geometry) (n : ℕ) (p : Placement) (won : Bool) (a b m c : Moment)
    → (IsDecided a.content p (suc n) → ⊥) → IsMap a.content → Searched g 0 0 a b → Searched g n 0 (begun b) m
    → (NothingLost (begun b) m → SaysMove g m.content p n won) → IsNoted p (suc n) won m c → Ended g (suc n) p won a c
expansion_ended g n p won a b m c unknown u v w says noted =
    let from_m : LossIsCounted m.lost c.lost = note_counted m.content c.content p _ noted.answer m.lost c.lost
    noted.note in
    let to_m : LossIsCounted a.lost m.lost = counted_then a.lost b.lost m.lost v.counted w.counted in
    let x : NothingLost a c → Worked g 0 0 a b = λ k. v.worked (first_kept a b m v.counted w.counted
    (first_kept a m c to_m from_m k)) in
    let y : NothingLost a c → NothingLost (begun b) m = λ k. second_kept a b m v.counted w.counted
    (first_kept a m c to_m from_m k) in
    let z : NothingLost a c → IsKept g p n won m.content c.content = λ k.
    let none = second_kept a m c to_m from_m k in
    note_kept g m.content c.content p noted.had n won noted.note.map_before noted.held
    (noted_put m.content c.content p _ noted.answer m.lost c.lost noted.note none.0 none.1) in
    record {
      searched = record {
        few = few_then a b c v.few (few_noted p (suc n) won b m c w.few noted);
        counted = counted_then a.lost m.lost c.lost to_m from_m;
        worked = λ k. expansion_worked g n p won a b m c unknown u (x k) (w.worked (y k)) (says (y k)) (z k)
            noted.expanded noted.note.map_before;
      };
      says = λ k. (z k).says;
    }

-- THE SAME WITH A NUMBER OF MOVES THAT IS NOT NONE

pub begun_is : {M : Type 0} (content : M → Content) (lost : M → ℕ) (memo memo' : M) (e e' : ℕ) → memo' ≡ memo
    → e' ≡ e + 1 → moment content lost memo' e' ≡ begun (moment content lost memo e)
begun_is content lost memo memo' e e' same more = subst (λ z. moment content lost z e'
    ≡ begun (moment content lost memo e)) (sym same) (ap (λ z. moment content lost memo z) more)

pub moment_is : {M : Type 0} (content : M → Content) (lost : M → ℕ) (memo memo' : M) (e e' : ℕ) → memo' ≡ memo → e' ≡ e
    → moment content lost memo' e' ≡ moment content lost memo e
moment_is content lost memo memo' e e' same is = subst (λ z. moment content lost z e' ≡ moment content lost memo e)
    (sym same) (ap (λ z. moment content lost memo z) is)

pub wins_stopped : (g : Geometry) (n cut : ℕ) (a b b' c : Moment) → 1 ≤ n → cut ≤ n - 1 → b' ≡ begun b
    → Searched g 0 0 a b → Searched g (n - 1) cut b' c → Searched g n n a c
wins_stopped g zero cut a b b' c some less is v w = absurd (omega (arith, some))
wins_stopped g (suc n) cut a b b' c some less is v w =
    let e : suc n - 1 ≡ n = omega arith in
    let w' = subst (λ k. Searched g k cut (begun b) c) e (subst (λ z. Searched g (suc n - 1) cut z c) is w) in
    searched_looser g (suc n) (suc cut) (suc n) a c (omega (arith, less)) (expansion_stopped g n cut a b c v w')

pub wins_ended : (g : Geometry) (n : ℕ) (p : Placement) (won : Bool) (a b b' m c : Moment) → 1 ≤ n → b' ≡ begun b
    → (IsDecided a.content p n → ⊥) → IsMap a.content → Searched g 0 0 a b → Searched g (n - 1) 0 b' m
    → (NothingLost b' m → SaysMove g m.content p (n - 1) won) → IsNoted p n won m c → Ended g n p won a c
wins_ended g zero p won a b b' m c some is unknown u v w says noted = absurd (omega (arith, some))
wins_ended g (suc n) p won a b b' m c some is unknown u v w says noted =
    let e : suc n - 1 ≡ n = omega arith in
    expansion_ended g n p won a b m c unknown u v
    (subst (λ k. Searched g k 0 (begun b) m) e (subst (λ z. Searched g (suc n - 1) 0 z m) is w))
    (subst (λ z. NothingLost z m → SaysMove g m.content p n won) is (subst (λ k. NothingLost b' m
    → SaysMove g m.content p k won) e says))
    noted
