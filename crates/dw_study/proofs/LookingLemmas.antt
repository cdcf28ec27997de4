-- Searches for the least number of moves, one after another.
use Rattle.std.proofs.Common.{◌≡◌, ℕ, ◌+◌, ◌-◌, ◌^◌, ◌<◌, ◌≤◌, refl, sym, subst, ap, ◌∙◌, arith, Bool, Result, Ok, Err}
use Rattle.std.proofs.Common.{◌⊎◌, inl, inr, zero-add}
use Rattle.std.proofs.lemmas.Bool.{cases_Bool, cases_lt}
use Rattle.std.specs.Prelude.{IfOk}
use Rattle.std.specs.Result.{IsErrAnd}
use Rattle.dw_board.specs.Geometry.{Geometry}
use Rattle.dw_board.specs.Placement.{Placement}
use Rattle.dw_memo.specs.Content.{Content, SameEntries}
use Rattle.dw_solve.specs.Certificates.{SaysLeast, SaysWin}
use Rattle.dw_solve.specs.Facts.{IsDecided}
use Rattle.dw_solve.specs.Laws.{SearchesAddUp}
use Rattle.dw_solve.specs.Questions.{Asked, moment_of, Idle, LostNothing}
use Rattle.dw_solve.specs.Solving.{Solving}
use Rattle.dw_solve.specs.Work.{Moment, Searched, Stronger, LossIsCounted}
use Rattle.dw_solve.specs.declared.stop.Stop.{Stop}
use Rattle.dw_solve.specs.declared.stop.Stop.TheVariants.{Limit}
use Rattle.dw_solve.specs.inner.QuestionLemmas.{answered, err_is, searched_looser}
use Rattle.dw_study.specs.Telling.{Sought}
use Rattle.dw_study.specs.declared.finding.Finding as findings
use Rattle.dw_study.specs.declared.finding.Finding.TheVariants.{Undecided}
use Rattle.dw_study.specs.declared.least.Cut.{Cut}
use Rattle.dw_study.specs.inner.Looking.{LooksFor}

-- searches after others, of which none was cut off
pub searched_then : SearchesAddUp → (g : Geometry) (n k cut : ℕ) (a b c : Moment) → n ≤ k → Searched g n 0 a b
    → Searched g k cut b c → Searched g k cut a c
searched_then law g n k cut a b c wide s t =
    subst (λ z. Searched g k z a c) (zero-add cut) (law.next g k 0 cut a b c (law.wider g n k 0 a b wide s) t)

-- the same searches, if more moves are allowed and more may be cut off
searched_within : SearchesAddUp → (g : Geometry) (n k cut more : ℕ) (a b : Moment) → n ≤ k → cut ≤ more
    → Searched g n cut a b → Searched g k more a b
searched_within law g n k cut more a b wide less s =
    searched_looser g k cut more a b less (law.wider g n k cut a b wide s)

decided_stronger : (old new : Content) (p : Placement) (k : ℕ) → Stronger old new → IsDecided old p k
    → IsDecided new p k
decided_stronger old new p k s (inl w) = inl (s.wins p k w)
decided_stronger old new p k s (inr f) = inr (s.fails p k f)

says_decided : (c : Content) (p : Placement) (n : ℕ) (answer : Bool) → 1 ≤ n → SaysWin c p n answer
    → IsDecided c p n
says_decided c p n answer some s = elim (cases_Bool answer) [
  | inl e ↦ inl (s.when e)
  | inr e ↦ elim (s.unless (λ t. cc)) [ inl none ↦ absurd (omega (arith, none, some)) | inr f ↦ inr f ]
]

-- the memo says each number below, and then this one too
pub says_more : {M : Type 0} (g : Geometry) (content : M → Content) (lost : M → ℕ) → SearchesAddUp → (p : Placement)
    (n cut : ℕ) (a b c : Solving M) (answer : Bool) → 1 ≤ n → LossIsCounted (lost a.memo) (lost b.memo)
    → Searched g n cut (moment_of content lost b) (moment_of content lost c) → (LostNothing content lost a b → SaysLeast
    (content b.memo) p (n - 1)) → (LostNothing content lost b c → SaysWin (content c.memo) p n answer) → LostNothing
    content lost a c → SaysLeast (content c.memo) p n
says_more g content lost law p n cut a b c answer some counted here before last kept = λ k low high.
    let parts = law.parts (moment_of content lost a) (moment_of content lost b) (moment_of content lost c) counted
    here.counted kept in
    elim (cases_lt k n) [
      | inl less ↦ decided_stronger (content b.memo) (content c.memo) p k (here.worked parts.1).stronger
          (before parts.0 k low (omega (arith, less)))
      | inr more ↦ let same : n ≡ k = omega (arith, more, high) in
          subst (λ z. IsDecided (content c.memo) p z) same
          (says_decided (content c.memo) p n answer some (last parts.1))
    ]

-- a solver whose limit was changed
pub same_memo : {M : Type 0} (a b : Solving M) (limit : ℕ) → b ≡ record a { limit = limit } → b.memo ≡ a.memo
same_memo a b limit e = ap (λ z. z.memo) e

-- what is decided is so in a memo with the same entries
decided_same : (c d : Content) (p : Placement) (n : ℕ) → SameEntries c d → IsDecided c p n → IsDecided d p n
decided_same c d p n same (inl w) = inl record {
  entry = w.entry;
  held = (same w.entry).0 w.held;
  about = w.about;
  bound = w.bound;
  is = w.is;
  enough = w.enough;
}
decided_same c d p n same (inr f) = inr record {
  entry = f.entry;
  held = (same f.entry).0 f.held;
  about = f.about;
  bound = f.bound;
  is = f.is;
  enough = f.enough;
}

module _ {M : Type 0} (content : M → Content) (p : Placement) (n : ℕ) where
  pub idle_then : (a b c : Solving M) → Idle content a b → Idle content b c → Idle content a c
  idle_then a b c u v =
      (v.0 ∙ u.0, λ e. ((λ m. (v.1 e).0 ((u.1 e).0 m)), (λ m. (u.1 e).1 ((v.1 e).1 m))))

  -- what was decided still is while nothing happens
  pub still_decided : (a b : Solving M) → Idle content a b → (n ≡ 0) ⊎ IsDecided (content a.memo) p n
      → (n ≡ 0) ⊎ IsDecided (content b.memo) p n
  still_decided a b idle (inl none) = inl none
  still_decided a b idle (inr d) = inr (decided_same (content a.memo) (content b.memo) p n idle.1 d)

  -- nothing happens as far as the memo says of each number of moves whether there is a win within it
  pub idle_on : {X : Type 0} (j : ℕ) (a b c : Solving M) → SaysLeast (content a.memo) p j → 1 ≤ n → n ≤ j
      → Idle content a b → ((n ≡ 0) ⊎ IsDecided (content b.memo) p n → X × Idle content b c) → X × Idle content a c
  idle_on j a b c says some few idle known =
      let here = known (still_decided a b idle (inr (says n some few))) in (here.0, idle_then a b c idle here.1)

pub loss_then : (a b c : ℕ) → LossIsCounted a b → LossIsCounted b c → LossIsCounted a c
loss_then a b c h k = record {
  rises = λ l. let f = h.rises l in let s = k.rises (h.within l) in omega (arith, f, s);
  within = λ l. k.within (h.within l);
}

-- the memo says nothing of the number at which a search was stopped, and so of no higher one
pub known_below : (m j : ℕ) → 1 ≤ m → (m ≤ j → ⊥) → j ≤ m - 1
known_below m j some not = elim (cases_lt j m) [ inl below ↦ omega (arith, below) | inr above ↦ absurd (not above) ]

-- what the memo says does not depend on the limit
pub says_between : {M : Type 0} (content : M → Content) (lost : M → ℕ) (p : Placement) (a b c d : Solving M)
    (r : Result ℕ Cut) → b.memo ≡ a.memo → d.memo ≡ c.memo
    → IfOk r (λ m. LostNothing content lost b c → SaysLeast (content c.memo) p m)
    → IfOk r (λ m. LostNothing content lost a d → SaysLeast (content d.memo) p m)
says_between content lost p a b c d (Err e) down up says = tt
says_between content lost p a b c d (Ok m) down up says = λ kept.
    subst (λ z. SaysLeast (content z) p m) (sym up)
    (says (ap lost down ∙ (kept.0 ∙ ap lost up), subst (λ z. lost z < 2 ^ 64 - 1) up kept.1))

-- the searches are those of a limit that is lowered before and raised after
pub looks_between : {M : Type 0} (g : Geometry) (content : M → Content) (lost : M → ℕ) (limit most : ℕ)
    (a b c d : Solving M) (r : Result ℕ Cut) → b ≡ record a { limit = limit } → d ≡ record c { limit = a.limit }
    → limit ≡ most → limit ≤ a.limit → LooksFor g content lost b.limit b c r → LooksFor g content lost most a d r
looks_between g content lost limit most a b c d r down up same less h =
    let lower = subst (λ z. LooksFor g content lost z.limit z c r) down h in
    subst (λ z. LooksFor g content lost most a z r) (sym up)
    (subst (λ z. LooksFor g content lost z a (record c { limit = a.limit }) r) same (record {
      count = record {
        rises = lower.count.rises;
        within = let w = lower.count.within in omega (arith, w, less);
        same = refl;
      };
      few = lower.few;
      stop = lower.stop;
      searched = lower.searched;
    }))

module _ {M : Type 0} (g : Geometry) (content : M → Content) (lost : M → ℕ) where
  -- a number was found
  pub looked : (limit k : ℕ) (a b : Solving M) → LooksFor g content lost limit a b (Ok k)
      → Asked g content lost k a b answered
  looked limit k a b h = record { count = h.count; stop = λ e. cc; searched = h.searched }

  -- the verdict was stopped
  pub sought_stopped : {B : Type 0} (n : ℕ) (a b : Solving M) (r : Result (findings.Finding B) Stop) (e : Stop)
      → IsErrAnd r (λ d. d ≡ e) → Asked g content lost n a b r → Sought g content lost n a b r
  sought_stopped n a b (Ok x) e is h = absurd is
  sought_stopped n a b (Err d) e is h = record { count = h.count; stop = h.stop; searched = h.searched }

  -- the search for the number was stopped
  pub sought_cut : {B : Type 0} → SearchesAddUp → (n limit : ℕ) (a b : Solving M) (cut : Cut) (why : Stop)
      → (why ≡ Limit → b.expanded ≡ b.limit) → cut.no_win_in + 1 ≤ n → LooksFor g content lost limit a b (Err cut)
      → Sought {B = B} g content lost n a b (Err why)
  sought_cut law n limit a b cut why stop less h = record {
    count = h.count;
    stop = λ e. stop (err_is why e);
    searched = searched_within law g (cut.no_win_in + 1) n (cut.no_win_in + 1) n (moment_of content lost a)
        (moment_of content lost b) less less h.searched;
  }

  -- and so the position stays undecided
  pub sought_undecided : {B : Type 0} (n limit : ℕ) (a b : Solving M) (cut : Cut)
      → LooksFor g content lost limit a b (Err cut)
      → Sought {B = B} g content lost n a b (Ok (Undecided cut.no_win_in))
  sought_undecided n limit a b cut h = record { count = h.count; stop = λ e. cc; searched = h.searched }
