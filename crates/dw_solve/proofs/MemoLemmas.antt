-- What a memo says, and notes of right answers.
use Rattle.std.proofs.Common.{◌≡◌, ℕ, List, [], ◌∷◌, refl, sym, ap, ◌∙◌, subst, ◌⊎◌, inl, inr, arith, Bool, true, false}
use Rattle.std.proofs.Common.{Option, Some, None, map, ◌↔◌, IfSome, IsNone, IsTrue, is_some}
use Rattle.std.specs.Prelude.{max, min, cond}
use Rattle.std.proofs.lemmas.Bool.{true≢false, cases_Bool, cases_lt, leb-true, le-leb}
use Rattle.dw_board.specs.Geometry.{Geometry}
use Rattle.dw_board.specs.Placement.{Placement}
use Rattle.dw_memo.specs.declared.bounds.Bounds.{Bounds}
use Rattle.dw_memo.specs.declared.memo.Noted.{Noted}
use Rattle.dw_memo.specs.Bounding.{wins_decide, fails_decide, decided, at_least, at_most, with_fail, with_win}
use Rattle.dw_memo.specs.Content.{Entry, entry, Content, positions, IsMap, SameEntries, MayForget}
use Rattle.dw_board.specs.Lists.{Member}
use Rattle.dw_memo.specs.Noting.{IsNote}
use Rattle.dw_solve.specs.Wins.{Win}
use Rattle.dw_solve.specs.Facts.{KnownWin, KnownFail, IsDecided, AreTrue}
use Rattle.dw_solve.specs.inner.Searching.{HasBounds}
use Rattle.dw_solve.specs.Certificates.{SaysWin}
use Rattle.dw_moves.specs.Replies.{AlwaysReply}
use Rattle.dw_solve.proofs.WinLemmas.{Win-le, hopeless_is}

pub option_cases : {A : Type 0} → (o : Option A) → (o ≡ None) ⊎ ((x : A) × (o ≡ Some x))
option_cases None = inl refl
option_cases (Some x) = inr (x, refl)

pub mem_map : {X Y : Type 0} (f : X → Y) → (x : X) (xs : List X) → Member x xs → Member (f x) (map f xs)
mem_map f x [] m = absurd m
mem_map f x (y ∷ xs) (inl e) = inl (ap f e)
mem_map f x (y ∷ xs) (inr m) = inr (mem_map f x xs m)

-- the same entries say the same
pub same_fail : (c d : Content) → SameEntries c d → (p : Placement) (f : ℕ) → KnownFail d p f → KnownFail c p f
same_fail c d same p f h = record {
  entry = h.entry;
  held = (same h.entry).1 h.held;
  about = h.about;
  bound = h.bound;
  is = h.is;
  enough = h.enough;
}

pub same_win : (c d : Content) → SameEntries c d → (p : Placement) (w : ℕ) → KnownWin d p w → KnownWin c p w
same_win c d same p w h = record {
  entry = h.entry;
  held = (same h.entry).1 h.held;
  about = h.about;
  bound = h.bound;
  is = h.is;
  enough = h.enough;
}

pub same_true : (g : Geometry) (c d : Content) → AreTrue g c → SameEntries c d → AreTrue g d
same_true g c d right same = record {
  fails = λ p f h. right.fails p f (same_fail c d same p f h);
  wins =
      λ p w h. right.wins p w (same_win c d same p w h);
}

-- what a memo says that may have forgotten all
pub still_true : (g : Geometry) (c d : Content) → AreTrue g c → MayForget c d → AreTrue g d
still_true g c d t (inl same) = same_true g c d t same
still_true g c d t (inr none) = subst (AreTrue g) (sym none) (record {
  fails = λ p f k. absurd k.held;
  wins = λ p w k. absurd k.held;
})

-- bounds that decide
pub wins_known : (c : Content) (p : Placement) (b : Bounds) (n : ℕ) → Member (entry p b) c → wins_decide b.wins n ≡ true
    → KnownWin c p n
wins_known c p b n m e = elim (option_cases b.wins) [
  | inl none ↦ absurd (let q = rw none at e in cc)
  | inr some ↦ record {
    entry = entry p b;
    held = m;
    about = refl;
    bound = some.0;
    is = some.1;
    enough =
        leb-true some.0 n (rw (some.1) at e);
  }
]

pub fails_known : (c : Content) (p : Placement) (b : Bounds) (n : ℕ) → Member (entry p b) c → fails_decide b.fails n
    ≡ true → KnownFail c p n
fails_known c p b n m e = elim (option_cases b.fails) [
  | inl none ↦ absurd (let q = rw none at e in cc)
  | inr some ↦ record {
    entry = entry p b;
    held = m;
    about = refl;
    bound = some.0;
    is = some.1;
    enough =
        leb-true n some.0 (rw (some.1) at e);
  }
]

-- where they decide, it is known
pub decided_known : (c : Content) (p : Placement) (b : Bounds) (n : ℕ) (r : Option Bool) → Member (entry p b) c
    → r ≡ decided b n → is_some r ≡ true → IsDecided c p n
decided_known c p b n r m e some = elim (cases_Bool (wins_decide b.wins n)) [
  | inl w ↦ inl (wins_known c p b n m w)
  | inr w ↦ elim (cases_Bool (fails_decide b.fails n)) [
    | inl f ↦ inr (fails_known c p b n m f)
    | inr f ↦ let d : decided b n ≡ None = rw (w, f) refl in let q : false ≡ true = sym (ap is_some (e ∙ d))
        ∙ some in absurd (cc)
  ]
]

-- what they say is so
pub decided_right : (g : Geometry) (c : Content) (p : Placement) (b : Bounds) (n : ℕ) (r : Option Bool) → AreTrue g c
    → Member (entry p b) c → r ≡ decided b n → IfSome r (λ yes. IsTrue yes ↔ Win g p n)
decided_right g c p b n r right m e = subst (λ o. IfSome o (λ yes. IsTrue yes ↔ Win g p n)) (sym e)
    (elim (cases_Bool (wins_decide b.wins n)) [
      | inl w ↦ rw (w) ((λ _. right.wins p n (wins_known c p b n m w)), (λ _. refl))
      | inr w ↦ elim (cases_Bool (fails_decide b.fails n)) [
        | inl f ↦ rw (w, f) ((λ q. absurd (cc)), (λ win. absurd (right.fails p n (fails_known c p b n m f) win)))
        | inr f ↦ rw (w, f) tt
      ]
    ])

-- they say the answer themselves
pub decided_says : (c : Content) (p : Placement) (b : Bounds) (n : ℕ) (r : Option Bool) → Member (entry p b) c
    → r ≡ decided b n → IfSome r (SaysWin c p n)
decided_says c p b n r m e = subst (λ o. IfSome o (SaysWin c p n)) (sym e) (elim (cases_Bool (wins_decide b.wins n)) [
  | inl w ↦ rw (w) (record { when = λ _. wins_known c p b n m w; unless = λ q. absurd (q refl) })
  | inr w ↦ elim (cases_Bool (fails_decide b.fails n)) [
    | inl f ↦ rw (w, f) (record { when = λ q. absurd (cc); unless = λ _. inr (fails_known c p b n m f) })
    | inr f ↦ rw (w, f) tt
  ]
])

pub same_entry : (c : Content) (e f : Entry) → IsMap c → Member e c → Member f c → e.position ≡ f.position → e ≡ f
same_entry [] e f u m n q = absurd m
same_entry (x ∷ c) e f u (inl a) (inl k) q = a ∙ sym k
same_entry (x ∷ c) e f u (inl a) (inr n) q =
    absurd (u.0 (subst (λ z. Member z (positions c)) (sym q ∙ ap (λ (e : Entry). e.position) a)
    (mem_map (λ (e : Entry). e.position) f c n)))
same_entry (x ∷ c) e f u (inr m) (inl k) q =
    absurd (u.0 (subst (λ z. Member z (positions c)) (q ∙ ap (λ (e : Entry). e.position) k)
    (mem_map (λ (e : Entry). e.position) e c m)))
same_entry (x ∷ c) e f u (inr m) (inr n) q = same_entry c e f u.1 m n q

-- where they decide nothing, nothing is known
pub undecided_open : (c : Content) (p : Placement) (b : Bounds) (n : ℕ) (r : Option Bool) → IsMap c
    → Member (entry p b) c → r ≡ decided b n → IsNone r → IsDecided c p n → ⊥
undecided_open c p b n r u m e none (inl h) =
    let one = same_entry c h.entry (entry p b) u h.held m h.about in
    let is : b.wins ≡ Some h.bound = ap (λ (e : Entry). e.bounds.wins) (sym one) ∙ h.is in
    let yes : wins_decide b.wins n ≡ true = rw is (le-leb h.bound n h.enough) in
    let d : decided b n ≡ Some true = rw yes refl in
    let q : true ≡ false = sym (ap is_some (e ∙ d)) ∙ none in
    absurd (cc)
undecided_open c p b n r u m e none (inr h) =
    let one = same_entry c h.entry (entry p b) u h.held m h.about in
    let is : b.fails ≡ Some h.bound = ap (λ (e : Entry). e.bounds.fails) (sym one) ∙ h.is in
    let yes : fails_decide b.fails n ≡ true = rw is (le-leb n h.bound h.enough) in
    elim (cases_Bool (wins_decide b.wins n)) [
      | inl w ↦ let d : decided b n ≡ Some true = rw w refl in let q : true ≡ false = sym (ap is_some (e ∙ d))
          ∙ none in absurd (cc)
      | inr w ↦ let d : decided b n ≡ Some false = rw (w, yes) refl in let q : true ≡ false = sym (ap is_some (e ∙ d))
          ∙ none in absurd (cc)
    ]

pub unheld_open : (c : Content) (p : Placement) (n : ℕ) → (Member p (positions c) → ⊥) → IsDecided c p n → ⊥
unheld_open c p n out (inl h) = out (subst (λ z. Member z (positions c)) h.about (mem_map (λ (e : Entry). e.position)
    h.entry c h.held))
unheld_open c p n out (inr h) = out (subst (λ z. Member z (positions c)) h.about (mem_map (λ (e : Entry). e.position)
    h.entry c h.held))

-- the bounds of a position, held or none, decide what is known of it
pub bounds_decide : (c : Content) (p : Placement) (b : Bounds) (n : ℕ) (r : Option Bool) → HasBounds c p b
    → r ≡ decided b n → is_some r ≡ true → IsDecided c p n
bounds_decide c p b n r (inl held) e some = decided_known c p b n r held e some
bounds_decide c p b n r (inr none) e some =
    let d : decided b n ≡ None = subst (λ z. decided z n ≡ None) (sym none.0) refl in
    absurd (true≢false (sym some ∙ ap is_some (e ∙ d)))

pub bounds_open : (c : Content) (p : Placement) (b : Bounds) (n : ℕ) (r : Option Bool) → IsMap c → HasBounds c p b
    → r ≡ decided b n → is_some r ≡ false → IsDecided c p n → ⊥
bounds_open c p b n r u (inl held) e none known = undecided_open c p b n r u held e none known
bounds_open c p b n r u (inr out) e none known = unheld_open c p n out.1 known

-- what bounds decide is so, and the memo says it
pub bounds_right : (g : Geometry) (c : Content) (p : Placement) (b : Bounds) (n : ℕ) (r : Option Bool) (x : Bool)
    → AreTrue g c → HasBounds c p b → r ≡ decided b n → r ≡ Some x → IsTrue x ↔ Win g p n
bounds_right g c p b n r x right (inl held) e is = subst (λ o. IfSome o (λ yes. IsTrue yes ↔ Win g p n)) is
    (decided_right g c p b n r right held e)
bounds_right g c p b n r x right (inr none) e is =
    let d : decided b n ≡ None = subst (λ z. decided z n ≡ None) (sym none.0) refl in
    let no : None ≡ Some x = sym d ∙ (sym e ∙ is) in
    absurd (cc)

pub bounds_say : (c : Content) (p : Placement) (b : Bounds) (n : ℕ) (r : Option Bool) (x : Bool) → HasBounds c p b
    → r ≡ decided b n → r ≡ Some x → SaysWin c p n x
bounds_say c p b n r x (inl held) e is = subst (λ o. IfSome o (SaysWin c p n)) is (decided_says c p b n r held e)
bounds_say c p b n r x (inr none) e is =
    let d : decided b n ≡ None = subst (λ z. decided z n ≡ None) (sym none.0) refl in
    let no : None ≡ Some x = sym d ∙ (sym e ∙ is) in
    absurd (cc)

-- where each move has a reply, what is known of one move is that there is no win
pub says_no : (g : Geometry) (c : Content) (p : Placement) → AreTrue g c → AlwaysReply g p → IsDecided c p 1
    → SaysWin c p 1 false
says_no g c p right always known = record {
  when = λ t. absurd (true≢false (sym t));
  unless = λ _. inr (elim known [ inl w ↦ absurd (hopeless_is g p 1 refl always (right.wins p 1 w)) | inr f ↦ f ]);
}

-- A note of a right answer leaves a true memo, whatever was lost.
some_is : (x y : ℕ) → Some x ≡ Some y → x ≡ y
some_is x y e = cc

had_fails : (g : Geometry) (c : Content) (p : Placement) (had : Bounds) → AreTrue g c → HasBounds c p had → (f : ℕ)
    → had.fails ≡ Some f → Win g p f → ⊥
had_fails g c p had t (inl here) f is = t.fails p f (record {
  entry = entry p had;
  held = here;
  about = refl;
  bound = f;
  is = is;
  enough = omega arith;
})
had_fails g c p had t (inr none) f is = let q = ap (λ (b : Bounds). b.fails) none.0 in absurd (cc)

had_wins : (g : Geometry) (c : Content) (p : Placement) (had : Bounds) → AreTrue g c → HasBounds c p had → (w : ℕ)
    → had.wins ≡ Some w → Win g p w
had_wins g c p had t (inl here) w is = t.wins p w (record {
  entry = entry p had;
  held = here;
  about = refl;
  bound = w;
  is = is;
  enough = omega arith;
})
had_wins g c p had t (inr none) w is = let q = ap (λ (b : Bounds). b.wins) none.0 in absurd (cc)

note_true : (g : Geometry) (old new : Content) (p : Placement) (b : Bounds) (answer : Noted) (d d' : ℕ) → AreTrue g old
    → IsNote old p b answer new d d' → ((f : ℕ) → b.fails ≡ Some f → Win g p f → ⊥)
    → ((w : ℕ) → b.wins ≡ Some w → Win g p w) → AreTrue g new
note_true g old new p b answer d d' t n fails wins = record {
  fails = λ q f h. elim (n.only h.entry h.held) [
    | inl e ↦ λ w.
        let at_p : p ≡ q = sym (ap (λ (e : Entry). e.position) e) ∙ h.about in
        fails h.bound (ap (λ (e : Entry). e.bounds.fails) (sym e) ∙ h.is)
        (Win-le g p f h.bound h.enough (subst (λ z. Win g z f) (sym at_p) w))
    | inr o ↦ t.fails q f (record {
      entry = h.entry;
      held = o.0;
      about = h.about;
      bound = h.bound;
      is = h.is;
      enough =
          h.enough;
    })
  ];
  wins = λ q w h. elim (n.only h.entry h.held) [
    | inl e ↦
        let at_p : p ≡ q = sym (ap (λ (e : Entry). e.position) e) ∙ h.about in
        subst (λ z. Win g z w) at_p (Win-le g p h.bound w h.enough
        (wins h.bound (ap (λ (e : Entry). e.bounds.wins) (sym e) ∙ h.is)))
    | inr o ↦ t.wins q w (record {
      entry = h.entry;
      held = o.0;
      about = h.about;
      bound = h.bound;
      is = h.is;
      enough =
          h.enough;
    })
  ];
}

note_fail_true : (g : Geometry) (old new : Content) (p : Placement) (had : Bounds) (j : ℕ) (answer : Noted) (d d' : ℕ)
    → AreTrue g old → HasBounds old p had → IsNote old p (with_fail had j) answer new d d' → (Win g p j → ⊥)
    → AreTrue g new
note_fail_true g old new p had j answer d d' t held n none =
    note_true g old new p (with_fail had j) answer d d' t n
    (λ f is. elim (option_cases had.fails) [
      | inl e ↦ let q : Some j ≡ Some f = sym (ap (λ o. at_least o j) e) ∙ is in subst (λ z. Win g p z
          → ⊥) (some_is j f q) none
      | inr k ↦
          let q : Some (max k.0 j) ≡ Some f = sym (ap (λ o. at_least o j) k.1) ∙ is in
          let f_is : max k.0 j ≡ f = some_is (max k.0 j) f q in
          elim (cases_lt k.0 j) [
            | inl l ↦ let s : j ≡ f = omega arith in subst (λ z. Win g p z → ⊥) s none
            | inr l ↦ let s : k.0 ≡ f = omega arith in subst (λ z. Win g p z
                → ⊥) s (had_fails g old p had t held k.0 k.1)
          ]
    ])
    (λ w is. had_wins g old p had t held w is)

note_win_true : (g : Geometry) (old new : Content) (p : Placement) (had : Bounds) (j : ℕ) (answer : Noted) (d d' : ℕ)
    → AreTrue g old → HasBounds old p had → IsNote old p (with_win had j) answer new d d' → Win g p j → AreTrue g new
note_win_true g old new p had j answer d d' t held n win =
    note_true g old new p (with_win had j) answer d d' t n
    (λ f is. had_fails g old p had t held f is)
    (λ w is. elim (option_cases had.wins) [
      | inl e ↦ let q : Some j ≡ Some w = sym (ap (λ o. at_most o j) e) ∙ is in subst (Win g p) (some_is j w q) win
      | inr k ↦
          let q : Some (min k.0 j) ≡ Some w = sym (ap (λ o. at_most o j) k.1) ∙ is in
          let w_is : min k.0 j ≡ w = some_is (min k.0 j) w q in
          elim (cases_lt j k.0) [
            | inl l ↦ let s : j ≡ w = omega arith in subst (Win g p) s win
            | inr l ↦ let s : k.0 ≡ w = omega arith in subst (Win g p) s (had_wins g old p had t held k.0 k.1)
          ]
    ])

pub same_map : (old mid : Content) (p : Placement) (had : Bounds) → SameEntries old mid → HasBounds old p had
    → HasBounds mid p had
same_map old mid p had same (inl m) = inl ((same (entry p had)).0 m)
same_map old mid p had same (inr none) = inr (none.0, λ m. none.1 (back (positions_entry mid p m))) where
  positions_entry : (c : Content) (p : Placement) → Member p (positions c) → (e : Entry) × Member e c × (p ≡ e.position)
  positions_entry [] p m = absurd m
  positions_entry (e ∷ c) p (inl q) = (e, inl refl, q)
  positions_entry (e ∷ c) p (inr m) = let r = positions_entry c p m in (r.0, inr r.1, r.2)

  back : (e : Entry) × Member e mid × (p ≡ e.position) → Member p (positions old)
  back r = subst (λ z. Member z (positions old)) (sym r.2) (mem_map (λ (e : Entry). e.position) r.0 old
      ((same r.0).1 r.1))

pub noted_true : (g : Geometry) (old mid new : Content) (p : Placement) (had b : Bounds) (j : ℕ) (won : Bool)
    (answer : Noted) (d d' : ℕ) → AreTrue g old → SameEntries old mid → HasBounds old p had
    → b ≡ cond won (with_win had j) (with_fail had j) → IsNote mid p b answer new d d' → (IsTrue won ↔ Win g p j)
    → AreTrue g new
noted_true g old mid new p had b j true answer d d' t same held b_is n right =
    note_win_true g mid new p had j answer d d' (same_true g old mid t same) (same_map old mid p had same held)
    (subst (λ z. IsNote mid p z answer new d d') b_is n) (right.0 refl)
noted_true g old mid new p had b j false answer d d' t same held b_is n right =
    note_fail_true g mid new p had j answer d d' (same_true g old mid t same) (same_map old mid p had same held)
    (subst (λ z. IsNote mid p z answer new d d') b_is n) (λ w. let q = right.1 w in absurd (cc))
