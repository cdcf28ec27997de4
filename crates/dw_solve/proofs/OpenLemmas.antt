-- Replies of which some are put off, and the others were answered.
use Rattle.std.proofs.Common.{◌≡◌, ℕ, ◌+◌, ◌≤◌, ◌<◌, ◌⊎◌, ◌↔◌, Bool, true, false, List, [], ◌∷◌, ◌++◌, length, get_or}
use Rattle.std.proofs.Common.{refl, sym, ap, ◌∙◌, subst, inl, inr, arith, IsTrue}
use Rattle.std.specs.Prelude.{Option, None}
use Rattle.std.proofs.lemmas.List.{map-append}
use Rattle.std.specs.List.Sorted.{IsPermutation}
use Rattle.std.proofs.lemmas.Bool.{true≢false}
use Rattle.std.proofs.lemmas.List.Sorted.{IsPermutation-sym}
use Rattle.dw_board.specs.Geometry.{Geometry}
use Rattle.dw_board.specs.Lists.{Member}
use Rattle.dw_board.specs.Placement.{Placement}
use Rattle.dw_memo.specs.Content.{Content, SameEntries}
use Rattle.dw_moves.specs.Moves.{Move, Legal, AreLegal, play}
use Rattle.dw_moves.specs.inner.MemberLemmas.{mem_left, mem_right, mem_cases}
use Rattle.dw_solve.specs.Wins.{Win, Lost}
use Rattle.dw_solve.specs.Facts.{KnownWin, AreTrue, IsDecided, RepliesAreDecided}
use Rattle.dw_solve.specs.Ranking.{AreRanked, moves_of}
use Rattle.dw_solve.specs.Certificates.{SaysWin, SaysLost}
use Rattle.dw_solve.specs.Work.{Moment, NothingLost, Searched}
use Rattle.dw_solve.specs.declared.search.Search.{Search}
use Rattle.dw_solve.specs.inner.Ranking.{AreAllLegal, AreLinedUpLast, AreOpen, IsAnswered, AllWin, SaysAll}
use Rattle.dw_solve.specs.inner.Searching.{at_time, HasLooked, IsKnown}
use Rattle.dw_solve.proofs.MemoLemmas.{same_win, same_fail}
use Rattle.dw_solve.proofs.RankLemmas.{get_same, member_at, index_of, split, still_there, AllWon, move_of, rank_of}
use Rattle.dw_solve.proofs.TriedLemmas.{Answered, Tried, searched_after}
use Rattle.dw_solve.proofs.WorkLemmas.{searched_none, first_kept, second_kept}

-- ---- looks at the memo, one after another
pub flip : (c d : Content) → SameEntries c d → SameEntries d c
flip c d same e = ((same e).1, (same e).0)

module _ {M G : Type 0} (g : Geometry) (content : M → Content) (lost : M → ℕ) where
  pub looked_then : (a b c : Search M G) → HasLooked g content lost a b → HasLooked g content lost b c
      → HasLooked g content lost a c
  looked_then a b c h k = record {
    right = k.right;
    count = k.count ∙ h.count;
    limit = k.limit ∙ h.limit;
    same = λ e. ((λ m. (k.same e).0 ((h.same e).0 m)), (λ m. (h.same e).1 ((k.same e).1 m)));
    work = searched_after g 0 0 (at_time content lost a) (at_time content lost b) (at_time content lost c) h.work
        k.work;
  }

-- ---- replies one after another
-- a search, in which of the replies below i these were put off, and the others answered
pub record PutOff (g : Geometry) (q : Placement) (n : ℕ) (legal : List Move) (i : ℕ) (replies : List Move)
    (a c : Moment) : Type 0 where
  pub work : Searched g n 0 a c
  pub legal_too : AreAllLegal g q replies
  pub others : (k : ℕ) (r : Move) → k < i → r ≡ get_or legal k r → Member r replies ⊎ IsAnswered g q n a c r

pub put_off_none : (g : Geometry) (q : Placement) (n : ℕ) (legal replies : List Move) (a : Moment) → replies ≡ []
    → PutOff g q n legal 0 replies a a
put_off_none g q n legal replies a none = record {
  work = searched_none g n 0 a;
  legal_too = λ m there. absurd (subst (Member m) none there);
  others = λ k r low e. absurd (omega (arith, low));
}

module _ (g : Geometry) (q : Placement) (n : ℕ) (legal : List Move) (i : ℕ) (old : List Move) (r : Move)
    (a b c : Moment) (h : PutOff g q n legal i old a b) (low : i < length legal) (is : r ≡ get_or legal i r)
    (w : Searched g n 0 b c) where
  this_one : (k : ℕ) (x : Move) → k ≡ i → x ≡ get_or legal k x → r ≡ x
  this_one k x e at =
      let at_i : x ≡ get_or legal i x = subst (λ z. x ≡ get_or legal z x) e at in
      is ∙ (get_same legal i r x low ∙ sym at_i)

  later : (x : Move) → IsAnswered g q n a b x → IsAnswered g q n a c x
  later x here = record {
    wins = here.wins;
    says = λ kept.
        (w.worked (second_kept a b c h.work.counted w.counted kept)).stronger.wins (play g q x) n
        (here.says (first_kept a b c h.work.counted w.counted kept));
  }

  -- the attacker wins after the reply
  pub put_off_won : (wins : Bool) → wins ≡ true → (IsTrue wins ↔ Win g (play g q r) n)
      → (NothingLost b c → SaysWin c.content (play g q r) n wins) → PutOff g q n legal (i + 1) old a c
  put_off_won wins won answer says = record {
    work = searched_after g n 0 a b c h.work w;
    legal_too = h.legal_too;
    others = λ k x under at. elim (split k i under) [
      | inl e ↦ inr (subst (IsAnswered g q n a c) (this_one k x e at) (record {
        wins = answer.0 won;
        says = λ kept. (says (second_kept a b c h.work.counted w.counted kept)).when won;
      }))
      | inr less ↦ elim (h.others k x less at) [ inl there ↦ inl there | inr here ↦ inr (later x here) ]
    ];
  }

  -- it is put off, too
  pub put_off_more : (new : List Move) → Legal g q r → new ≡ old ++ r ∷ [] → PutOff g q n legal (i + 1) new a c
  put_off_more new mine added = record {
    work = searched_after g n 0 a b c h.work w;
    legal_too = λ m there. elim (mem_cases m old (r ∷ []) (subst (Member m) added there)) [
      | inl o ↦ h.legal_too m o
      | inr (inl e) ↦ subst (Legal g q) (sym e) mine
      | inr (inr none) ↦ absurd none
    ];
    others = λ k x under at. subst (λ z. Member x z ⊎ IsAnswered g q n a c x) (sym added) (elim (split k i under) [
      | inl e ↦ inl (mem_right x old (r ∷ []) (inl (sym (this_one k x e at))))
      | inr less ↦ elim (h.others k x less at) [
        | inl there ↦ inl (mem_left x old (r ∷ []) there)
        | inr here ↦ inr (later x here)
      ]
    ]);
  }

pub moves_added : (old new : List (ℕ × Move)) (rank : ℕ) (r : Move) → new ≡ old ++ (rank, r) ∷ []
    → moves_of new ≡ moves_of old ++ r ∷ []
moves_added old new rank r added = ap moves_of added ∙ map-append (λ (z : ℕ × Move). z.1) old ((rank, r) ∷ [])

pub put_off_all : (g : Geometry) (q : Placement) (n : ℕ) (legal : List Move) (i : ℕ) (replies : List Move)
    (a c : Moment) → AreLegal g q legal → length legal ≤ i → PutOff g q n legal i replies a c
    → AreOpen g q n replies a c
put_off_all g q n legal i replies a c all end h = record {
  legal = h.legal_too;
  others = λ r l. let k = index_of r legal ((all.exactly r).1 l) in h.others k.0 r (omega (arith, k.1, end)) k.2;
}

-- ---- those that were put off
-- they may stand in any order
pub open_anyhow : (g : Geometry) (q : Placement) (n : ℕ) (ranked sorted : List (ℕ × Move)) (a c : Moment)
    → AreOpen g q n (moves_of ranked) a c → IsPermutation ranked sorted → AreOpen g q n (moves_of sorted) a c
open_anyhow g q n ranked sorted a c o moved = record {
  legal = λ m there.
      let r = rank_of sorted m there in
      let old = still_there sorted ranked (IsPermutation-sym ranked sorted moved) (r.0, m) r.1 in
      o.legal m (move_of ranked (r.0, m) old);
  others = λ m l. elim (o.others m l) [
    | inl there ↦
        let r = rank_of ranked m there in
        inl (move_of sorted (r.0, m) (still_there ranked sorted moved (r.0, m) r.1))
    | inr known ↦ inr known
  ];
}

-- a reply stands in the list with a rank
at_index : (ranked : List (ℕ × Move)) (m : Move) → Member m (moves_of ranked)
    → (rank k : ℕ) × (k < length ranked) × ((rank, m) ≡ get_or ranked k (rank, m))
at_index ranked m there = let r = rank_of ranked m there in let k = index_of (r.0, m) ranked r.1 in
    (r.0, k.0, k.1, k.2)

pub put_off_legal : (g : Geometry) (q : Placement) (ranked : List (ℕ × Move)) (i : ℕ) (x : ℕ × Move)
    → AreAllLegal g q (moves_of ranked) → i < length ranked → x ≡ get_or ranked i x → Legal g q x.1
put_off_legal g q ranked i x all low is = all x.1 (move_of ranked x (member_at ranked i x low is))

pub all_win : (g : Geometry) (q : Placement) (n : ℕ) (ranked : List (ℕ × Move)) (i : ℕ) → length ranked ≤ i
    → AllWon g q n ranked i → AllWin g q n ranked
all_win g q n ranked i end won r there =
    let k = at_index ranked r there in
    won k.1 (k.0, r) (omega (arith, k.2, end)) k.3

pub one_does_not : (g : Geometry) (q : Placement) (n : ℕ) (ranked : List (ℕ × Move)) (i : ℕ) (x : ℕ × Move)
    → i < length ranked → x ≡ get_or ranked i x → (Win g (play g q x.1) n → ⊥) → AllWin g q n ranked → ⊥
one_does_not g q n ranked i x low is fails all = fails (all x.1 (move_of ranked x (member_at ranked i x low is)))

pub says_all : (g : Geometry) (n : ℕ) (q : Placement) (ranked : List (ℕ × Move)) (i : ℕ) (a c : Moment)
    → length ranked ≤ i → Tried g n (Answered g q n) ranked i a c → NothingLost a c
    → SaysAll g c.content q n ranked true
says_all g n q ranked i a c end h kept = record {
  when = λ _ r there. let k = at_index ranked r there in h.1 kept k.1 (k.0, r) (omega (arith, k.2, end)) k.3;
  unless = λ t. absurd (t refl);
}

pub says_not_all : (g : Geometry) (c : Content) (q : Placement) (n : ℕ) (ranked : List (ℕ × Move))
    → SaysLost g c q n false → SaysAll g c q n ranked false
says_not_all g c q n ranked s = record { when = λ t. absurd (true≢false (sym t)); unless = s.unless }

-- ---- all replies
module _ (g : Geometry) (q : Placement) (n cut : ℕ) (ranked : List (ℕ × Move)) (a b c : Moment)
    (o : AreOpen g q n (moves_of ranked) a b) (v : Searched g n 0 a b) (w : Searched g n cut b c) where
  pub all_lose : (answer : Bool) → (IsTrue answer ↔ AllWin g q n ranked) → IsTrue answer ↔ Lost g q n
  all_lose answer is = (
    (λ t r l. elim (o.others r l) [ inl there ↦ is.0 t r there | inr here ↦ here.wins ]),
    (λ lost. is.1 (λ r there. lost r (o.legal r there))),
  )

  pub says_all_lose : (answer : Bool) → NothingLost a c → (NothingLost b c → SaysAll g c.content q n ranked answer)
      → SaysLost g c.content q n answer
  says_all_lose answer kept says =
      let first = first_kept a b c v.counted w.counted kept in
      let second = second_kept a b c v.counted w.counted kept in
      let s = says second in
      record {
        when = λ t r l. elim (o.others r l) [
          | inl there ↦ s.when t r there
          | inr here ↦ (w.worked second).stronger.wins (play g q r) n (here.says first)
        ];
        unless = s.unless;
      }

-- ---- looks at the last move of the attacker
abbrev pub AllKnown : Geometry → Content → Placement → List Move → ℕ → Type 0
AllKnown g c q legal i = (k : ℕ) (r : Move) → k < i → r ≡ get_or legal k r → KnownWin c (play g q r) 1

pub known_more : (g : Geometry) (c : Content) (q : Placement) (legal : List Move) (i : ℕ) (r : Move)
    → AllKnown g c q legal i → i < length legal → r ≡ get_or legal i r → KnownWin c (play g q r) 1
    → AllKnown g c q legal (i + 1)
known_more g c q legal i r h low is here k x under at = elim (split k i under) [
  | inl e ↦
      let at_i : x ≡ get_or legal i x = subst (λ z. x ≡ get_or legal z x) e at in
      subst (λ z. KnownWin c (play g q z) 1) (is ∙ (get_same legal i r x low ∙ sym at_i)) here
  | inr less ↦ h k x less at
]

pub known_all : (g : Geometry) (c d : Content) (q : Placement) (legal : List Move) (i : ℕ) → AreTrue g c
    → SameEntries c d → AreLegal g q legal → length legal ≤ i → AllKnown g c q legal i
    → (IsTrue true ↔ Lost g q 1) × SaysLost g d q 1 true
known_all g c d q legal i right same all end h =
    let each : (r : Move) → Legal g q r → KnownWin c (play g q r) 1 = λ r l.
    let k = index_of r legal ((all.exactly r).1 l) in h k.0 r (omega (arith, k.1, end)) k.2 in (
      ((λ _ r l. right.wins (play g q r) 1 (each r l)), (λ _. refl)),
      record {
        when = λ _ r l. same_win d c (flip c d same) (play g q r) 1 (each r l);
        unless = λ t. absurd (t refl);
      },
    )

pub known_refuted : (g : Geometry) (c d : Content) (q : Placement) (r : Move) (wins : Bool) → Legal g q r
    → wins ≡ false → IsKnown g c d (play g q r) 1 wins → (IsTrue false ↔ Lost g q 1) × SaysLost g d q 1 false
known_refuted g c d q r wins l none known = (
  ((λ t. absurd (true≢false (sym t))), (λ lost. absurd (true≢false (sym (known.answer.1 (lost r l)) ∙ none)))),
  record {
    when = λ t. absurd (true≢false (sym t));
    unless = λ _. (r, l, known.says.unless (λ t. true≢false (sym t ∙ none)));
  },
)

pub not_all_known : (g : Geometry) (c d : Content) (q : Placement) (r : Move) → Legal g q r → SameEntries c d
    → (IsDecided d (play g q r) 1 → ⊥) → RepliesAreDecided g c q 1 → ⊥
not_all_known g c d q r l same unknown all = elim (all r l) [
  | inl none ↦ omega (arith, none)
  | inr (inl w) ↦ unknown (inl (same_win d c (flip c d same) (play g q r) 1 w))
  | inr (inr f) ↦ unknown (inr (same_fail d c (flip c d same) (play g q r) 1 f))
]

-- ---- the replies at that move, in a list
pub last_ranked : (g : Geometry) (q : Placement) (ranked items : List (ℕ × Move)) (o : Option Placement)
    → AreLinedUpLast g q ranked o → o ≡ None → items ≡ ranked → AreRanked g q items
last_ranked g q ranked items o h is at =
    subst (AreRanked g q) (sym at) (subst (AreLinedUpLast g q ranked) is h)
