-- Rows that all follow are a certificate.
use Rattle.std.proofs.Common.{◌≡◌, ℕ, zero, suc, ◌+◌, ◌-◌, ◌≤◌, ◌<◌, ◌⊎◌, Bool, true, false, List, [], ◌∷◌, ◌++◌}
use Rattle.std.proofs.Common.{length, map, take, slice_get, Some, None, refl, sym, ap, ◌∙◌, subst, inl, inr, add-one}
use Rattle.std.proofs.Common.{arith, IsTrue}
use Rattle.std.specs.Prelude.{◌↔◌}
use Rattle.std.proofs.lemmas.Bool.{cases_Bool}
use Rattle.std.proofs.lemmas.List.{map-append, take_all}
use Rattle.dw_board.specs.Geometry.{Geometry}
use Rattle.dw_board.specs.Lists.{Member, NoRepeat}
use Rattle.dw_board.specs.Placement.{Placement}
use Rattle.dw_moves.specs.Moves.{Move, Legal, play}
use Rattle.dw_moves.specs.inner.MemberLemmas as laws
use Rattle.dw_memo.specs.Content.{Entry, entry, Content}
use Rattle.dw_solve.specs.Facts.{KnownWin, KnownFail, IsClosed, AreTrue}
use Rattle.dw_solve.specs.Wins.{Win}
use Rattle.dw_solve.specs.Certificates.{SaysWin}
use Rattle.dw_solve.specs.Laws.{ClosedIsTrue}
use Rattle.dw_certificate.specs.Certificate.{Row, Stepped, AreSteps, IsComeTo, AreRows, AreNeeded, IsCertificate}
use Rattle.dw_certificate.specs.Certificate.{positions_of, bounds_of, claims}
use Rattle.dw_certificate.specs.inner.Rows.{Knows, IsGrown, Follows, AreFollowed, IsSupported, LeadsTo}
use Rattle.dw_certificate.proofs.SupportLemmas.{steps_follow, steps_grown}

-- ---- PLACES

member_at : (rows : List Row) (i : ℕ) (r : Row) → slice_get rows i ≡ Some r → Member r rows
member_at [] i r h = absurd (cc)
member_at (x ∷ rows) zero r h = let e : x ≡ r = cc in inl (sym e)
member_at (x ∷ rows) (suc i) r h = inr (member_at rows i r h)

-- ---- GROWING

-- all rows are new if there was none
first_new : (p : Placement) (n : ℕ) (old new : List Row) → old ≡ [] → (grown : IsGrown (λ q. q ≡ p) n old new)
    → (r : Row) → Member r new → Member r grown.more
first_new p n old new none grown r m = subst (λ z. Member r (z ++ grown.more)) none (subst (Member r) grown.is m)

pub rows_first : (p : Placement) (n : ℕ) (old new : List Row) → old ≡ [] → IsGrown (λ q. q ≡ p) n old new → AreRows n
    new
rows_first p n old new none grown = record {
  once = grown.once (subst (λ z. NoRepeat (positions_of z)) (sym none) tt);
  some = λ r m. grown.some r (first_new p n old new none grown r m);
  few = λ r m. grown.few r (first_new p n old new none grown r m);
}

pub rows_grown : (Of : Placement → Type 0) (n : ℕ) (old new : List Row) (i : ℕ) (q : Placement) (b : ℕ)
    → AreRows n old → slice_get old i ≡ Some (q, b) → IsGrown Of (b - 1) old new → AreRows n new
rows_grown Of n old new i q b are at grown = record {
  once = grown.once are.once;
  some = λ r m. elim (cases r m) [ inl l ↦ are.some r l | inr h ↦ grown.some r h ];
  few = λ r m. elim (cases r m) [
    | inl l ↦ are.few r l
    | inr h ↦ let f = grown.few r h in omega (arith, f, low)
  ];
}
  where
    cases : (r : Row) → Member r new → Member r old ⊎ Member r grown.more
    cases r m = laws.mem_cases r old grown.more (subst (Member r) grown.is m)

    low : b ≤ n
    low = are.few (q, b) (member_at old i (q, b) at)

-- a row of these tells of one move at least
pub some_at : (n : ℕ) (rows : List Row) (i : ℕ) (q : Placement) (b : ℕ) → AreRows n rows
    → slice_get rows i ≡ Some (q, b) → 1 ≤ b
some_at n rows i q b are at = are.some (q, b) (member_at rows i (q, b) at)

-- no steps are taken yet
pub followed_none : (g : Geometry) (p : Placement) (n : ℕ) (win : Bool) (old new : List Row) → old ≡ []
    → IsGrown (λ q. q ≡ p) n old new → AreFollowed g p win new 0
followed_none g p n win old new none grown = record {
  all = [];
  are = refl;
  steps = λ s m. absurd m;
  come_to = λ r m. inl (grown.positions r (first_new p n old new none grown r m));
}

take_row : (old more : List Row) (i : ℕ) (r : Row) → slice_get old i ≡ Some r
    → take (suc i) (old ++ more) ≡ take i old ++ r ∷ []
take_row [] more i r at = absurd (cc)
take_row (x ∷ old) more zero r at = let e : x ≡ r = cc in ap (λ z. z ∷ []) e
take_row (x ∷ old) more (suc i) r at = ap (λ z. x ∷ z) (take_row old more i r at)

-- one row more takes its steps
module _ (g : Geometry) (p : Placement) (win : Bool) (old new : List Row) (count : ℕ) (q : Placement) (b left : ℕ)
    (whole : left + 1 ≡ b) (before : AreFollowed g p win old count) (at : slice_get old count ≡ Some (q, b))
    (here : IsSupported g win q left old new) where
  abbrev taken : Stepped
  taken = record { row = (q, b); steps = here.steps }

  abbrev all_taken : List Stepped
  all_taken = before.all ++ taken ∷ []

  steps_of : (s : Stepped) → Member s all_taken → AreSteps g win (claims win new) s.row s.steps
  steps_of s m = elim (laws.mem_cases s before.all (taken ∷ []) m) [
    | inl l ↦ steps_grown g win (LeadsTo g q here.steps) left old new s.row s.steps here.grown (before.steps s l)
    | inr n ↦ elim n [
      | inl e ↦ subst (λ (z : Stepped). AreSteps g win (claims win new) z.row z.steps) (sym e)
          (subst (λ z. AreSteps g win (claims win new) (q, z) here.steps) whole here.are)
      | inr z ↦ absurd z
    ]
  ]

  come_to_of : (r : Row) → Member r new → IsComeTo g p all_taken r
  come_to_of r m = elim (laws.mem_cases r old here.grown.more (subst (Member r) here.grown.is m)) [
    | inl l ↦ elim (before.come_to r l) [
      | inl e ↦ inl e
      | inr f ↦ inr (f.0, f.1, laws.mem_left f.0 before.all (taken ∷ []) f.2, f.3, f.4, f.5)
    ]
    | inr h ↦
        let to = here.grown.positions r h in
        let few = here.grown.few r h in
        inr (
          taken,
          to.0,
          laws.mem_right taken before.all (taken ∷ []) (inl refl),
          to.1,
          to.2,
          omega (
            arith,
            few,
            whole,
          ),
        )
  ]

  pub followed_more : AreFollowed g p win new (count + 1)
  followed_more = record {
    all = all_taken;
    are = subst (λ z. take (count + 1) z ≡ map (λ (s : Stepped). s.row) all_taken) (sym here.grown.is)
        (ap (λ n. take n (old ++ here.grown.more)) (add-one count) ∙ (take_row old here.grown.more count (q, b) at
        ∙ (ap (λ z. z ++ (q, b) ∷ []) before.are ∙ sym (map-append (λ (s : Stepped). s.row) before.all (taken ∷ [])))));
    steps = steps_of;
    come_to = come_to_of;
  }

-- all rows take steps, and are come to by these
pub followed_all : (g : Geometry) (p : Placement) (win : Bool) (rows : List Row) (count : ℕ)
    → AreFollowed g p win rows count → length rows ≤ count → AreNeeded g p win rows
followed_all g p win rows count f end = record {
  all = f.all;
  are = sym (take_all count rows end) ∙ f.are;
  steps = f.steps;
  come_to = f.come_to;
}

-- ---- CLOSED

known_entry : (win : Bool) (rows : List Row) (e : Entry) → Member e (claims win rows)
    → (r : Row) × Member r rows × (e ≡ entry r.0 (bounds_of win r.1))
known_entry win rows e m = laws.mem_map_back (λ (r : Row). entry r.0 (bounds_of win r.1)) e rows m

row_follows : (g : Geometry) (p : Placement) (win : Bool) (rows : List Row) (r : Row) → AreNeeded g p win rows
    → Member r rows → Follows g win (claims win rows) r.0 r.1
row_follows g p win rows r needed m =
    let f = laws.mem_map_back (λ (s : Stepped). s.row) r needed.all (subst (Member r) needed.are m) in
    subst (λ (z : Row). Follows g win (claims win rows) z.0 z.1) (sym f.2)
    (steps_follow g win rows f.0.row f.0.steps (needed.steps f.0 f.1))

win_is : (win : Bool) (b w : ℕ) → (bounds_of win b).wins ≡ Some w → (win ≡ true) × (b ≡ w)
win_is true b w e = let q : b ≡ w = cc in (refl, q)
win_is false b w e = absurd (cc)

fail_is : (win : Bool) (b f : ℕ) → (bounds_of win b).fails ≡ Some f → (win ≡ false) × (b ≡ f)
fail_is true b f e = absurd (cc)
fail_is false b f e = let q : b ≡ f = cc in (refl, q)

-- what closedness asks of an entry, by its position
abbrev WinOf : Geometry → Content → Placement → ℕ → Type 0
WinOf g c p w = (1 ≤ w) × (m : Move) × Legal g p m
    × ((r : Move) → Legal g (play g p m) r → KnownWin c (play g (play g p m) r) (w - 1))

abbrev FailOf : Geometry → Content → Placement → ℕ → Type 0
FailOf g c p f = (m : Move) → Legal g p m
    → (r : Move) × Legal g (play g p m) r × ((f ≡ 1) ⊎ KnownFail c (play g (play g p m) r) (f - 1))

win_of : (g : Geometry) (c : Content) (p : Placement) (w : ℕ) → 1 ≤ w → Follows g true c p w → WinOf g c p w
win_of g c p w some f = (some, f.0, f.1, f.2)

fail_of : (g : Geometry) (c : Content) (p : Placement) (b : ℕ) → 1 ≤ b → Follows g false c p b → FailOf g c p b
fail_of g c p b some f m l = let t = f m l in (t.0, t.1, elim t.2 [ inl e ↦ inl (omega arith) | inr k ↦ inr k ])

module _ (g : Geometry) (p : Placement) (n : ℕ) (win : Bool) (rows : List Row) (are : AreRows n rows)
    (needed : AreNeeded g p win rows) where
  closed_win : (e : Entry) → Member e (claims win rows) → (w : ℕ) → e.bounds.wins ≡ Some w
      → WinOf g (claims win rows) e.position w
  closed_win e m w h =
      let f = known_entry win rows e m in
      let s = win_is win f.0.1 w (sym (ap (λ (x : Entry). x.bounds.wins) f.2) ∙ h) in
      let t : Follows g true (claims win rows) f.0.0 f.0.1 = subst (λ z. Follows g z (claims win rows) f.0.0 f.0.1) s.0
      (row_follows g p win rows f.0 needed f.1) in
      let u = win_of g (claims win rows) f.0.0 f.0.1 (are.some f.0 f.1) t in
      subst (λ z. WinOf g (claims win rows) z w) (sym (ap (λ (x : Entry). x.position) f.2))
      (subst (λ z. WinOf g (claims win rows) f.0.0 z) s.1 u)

  closed_fail : (e : Entry) → Member e (claims win rows) → (b : ℕ) → e.bounds.fails ≡ Some b → 0 < b
      → FailOf g (claims win rows) e.position b
  closed_fail e m b h low =
      let f = known_entry win rows e m in
      let s = fail_is win f.0.1 b (sym (ap (λ (x : Entry). x.bounds.fails) f.2) ∙ h) in
      let t : Follows g false (claims win rows) f.0.0 f.0.1 = subst (λ z. Follows g z (claims win rows) f.0.0 f.0.1) s.0
      (row_follows g p win rows f.0 needed f.1) in
      let u = fail_of g (claims win rows) f.0.0 f.0.1 (are.some f.0 f.1) t in
      subst (λ z. FailOf g (claims win rows) z b) (sym (ap (λ (x : Entry). x.position) f.2))
      (subst (λ z. FailOf g (claims win rows) f.0.0 z) s.1 u)

  closed_rows : IsClosed g (claims win rows)
  closed_rows = record { wins = closed_win; fails = closed_fail }

says_of : (win : Bool) (c : Content) (p : Placement) (n : ℕ) → Knows win c p n → SaysWin c p n win
says_of true c p n k = record { when = λ yes. k; unless = λ no. absurd (no refl) }
says_of false c p n k = record { when = λ yes. absurd (cc); unless = λ no. inr k }

pub certificate_of : (g : Geometry) (p : Placement) (n : ℕ) (win : Bool) (rows : List Row) (count : ℕ)
    → AreRows n rows → AreFollowed g p win rows count → length rows ≤ count → Knows win (claims win rows) p n
    → IsCertificate g p n win rows
certificate_of g p n win rows count are followed end known =
    let needed = followed_all g p win rows count followed end in record {
      are = are;
      needed = needed;
      closed = closed_rows g p n win rows are needed;
      says = says_of win (claims win rows) p n known;
    }

-- no row stands at a place behind the last
pub none_at : (rows : List Row) (i : ℕ) → slice_get rows i ≡ None → length rows ≤ i
none_at [] i h = omega arith
none_at (x ∷ rows) zero h = absurd (cc)
none_at (x ∷ rows) (suc i) h = let n = none_at rows i h in omega (arith, n)

-- ---- RIGHT

pub certificates_right : ClosedIsTrue → (g : Geometry) (p : Placement) (n : ℕ) (win : Bool) (rows : List Row)
    → IsCertificate g p n win rows → IsTrue win ↔ Win g p n
certificates_right law g p n win rows cert = (λ yes. right.wins p n (cert.says.when yes), back)
  where
    right : AreTrue g (claims win rows)
    right = law g (claims win rows) cert.closed

    none : (IsTrue win → ⊥) → Win g p n → ⊥
    none lost w = elim (cert.says.unless lost) [
      | inl e ↦ subst (λ z. Win g p z) e w
      | inr k ↦ right.fails p n k w
    ]

    back : Win g p n → IsTrue win
    back w = elim (cases_Bool win) [ inl e ↦ e | inr e ↦ absurd (none (λ yes. cc) w) ]
