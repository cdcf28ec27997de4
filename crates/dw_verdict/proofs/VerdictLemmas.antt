-- Each problem has exactly one verdict, and one list of tries.
use Rattle.std.proofs.Common.{◌≡◌, ℕ, ◌-◌, ◌<◌, ◌≤◌, zero, suc, List, [], ◌∷◌, length, refl, sym, ap, ◌∙◌, subst, ◌⊎◌}
use Rattle.std.proofs.Common.{inl, inr, arith, Option, Some, None}
use Rattle.std.proofs.lemmas.Bool.{cases_order}
use Rattle.dw_board.specs.Geometry.{Geometry, IsBoard}
use Rattle.dw_board.specs.Placement.{Placement}
use Rattle.dw_moves.specs.Moves.{Move, Legal, play}
use Rattle.dw_board.specs.Lists.{Member}
use Rattle.dw_moves.specs.Order.{LexLess, IsKey, Precedes, IsAscending, IsListOf}
use Rattle.dw_moves.specs.Laws.{MovesListed, MovesInOrder, MovesHaveKeys}
use Rattle.dw_solve.specs.Wins.{Win}
use Rattle.dw_solve.specs.Laws.{WinsAreDecided, WinsStay, WinsHaveLines}
use Rattle.dw_solve.specs.Lines.{Before}
use Rattle.dw_solve.specs.inner.LineOrderLemmas.{precedes_asym}
use Rattle.dw_moves.specs.inner.OneListLemmas.{list_only}
use Rattle.dw_verdict.specs.Verdict.{IsWinning, Keys, reach, IsShortest, Verdict, unsolvable, cooked, dual, sound}
use Rattle.dw_verdict.specs.Verdict.{HasOneKey, IsVerdict, IsRefutation, IsTry, Tries, FindsRefutation}
use Rattle.dw_verdict.specs.inner.Judging.{LeadsToChoices, IsLeast, FindsLeast}
use Rattle.dw_verdict.specs.inner.WinningLemmas.{refutation_some, tries_listed}
use Rattle.dw_verdict.proofs.ChoiceLemmas.{keys_only, keys_exist, dual_leads, leads_dual, choices_found}

-- ORDER

lex_cases : (xs ys : List ℕ) → (xs ≡ ys) ⊎ (LexLess xs ys ⊎ LexLess ys xs)
lex_cases [] [] = inl refl
lex_cases [] (y ∷ ys) = inr (inl tt)
lex_cases (x ∷ xs) [] = inr (inr tt)
lex_cases (x ∷ xs) (y ∷ ys) = elim (cases_order x y) [
  | inl e ↦ elim (lex_cases xs ys) [
    | inl q ↦ inl (ap (λ z. x ∷ z) q ∙ ap (λ z. z ∷ ys) e)
    | inr (inl l) ↦ inr (inl (inr (e, l)))
    | inr (inr l) ↦ inr (inr (inr (sym e, l)))
  ]
  | inr (inl l) ↦ inr (inl (inl l))
  | inr (inr l) ↦ inr (inr (inl l))
]

-- of two legal moves one comes before the other, or they are one
precedes_cases : MovesHaveKeys → (g : Geometry) → IsBoard g → (p : Placement) (m n : Move) → Legal g p m → Legal g p n
    → (m ≡ n) ⊎ (Precedes g p m n ⊎ Precedes g p n m)
precedes_cases law g board p m n h k =
    let a = law.each g p m h in
    let b = law.each g p n k in
    elim (lex_cases a.0 b.0) [
      | inl e ↦ inl (law.differ g board p m n b.0 (subst (IsKey g p m) e a.1) b.1)
      | inr (inl l) ↦ inr (inl (a.0, b.0, a.1, b.1, l))
      | inr (inr l) ↦ inr (inr (b.0, a.0, b.1, a.1, l))
    ]

-- legal moves one after another
abbrev pub AllLegal : Geometry → Placement → List Move → Type 0
AllLegal g p [] = Unit {0}
AllLegal g p (m ∷ ms) = Legal g p m × AllLegal g (play g p m) ms

before_cases : MovesHaveKeys → (g : Geometry) → IsBoard g → (p : Placement) (x y : List Move) → AllLegal g p x
    → AllLegal g p y → (x ≡ y) ⊎ (Before g p x y ⊎ Before g p y x)
before_cases law g board p [] [] h k = inl refl
before_cases law g board p [] (n ∷ y) h k = inr (inl tt)
before_cases law g board p (m ∷ x) [] h k = inr (inr tt)
before_cases law g board p (m ∷ x) (n ∷ y) h k = elim (precedes_cases law g board p m n h.0 k.0) [
  | inl same ↦ elim (before_cases law g board (play g p m) x y h.1 (subst (λ z. AllLegal g (play g p z) y) (sym same)
      k.1)) [
        | inl q ↦ inl (ap (λ z. m ∷ z) q ∙ ap (λ z. z ∷ y) same)
        | inr (inl l) ↦ inr (inl (inr (same, l)))
        | inr (inr l) ↦ inr (inr (inr (sym same, subst (λ z. Before g (play g p z) y x) same l)))
      ]
  | inr (inl l) ↦ inr (inl (inl l))
  | inr (inr l) ↦ inr (inr (inl l))
]

leads_legal : (g : Geometry) (n : ℕ) (p : Placement) (l cs : List Move) → LeadsToChoices g n p l cs → AllLegal g p l
leads_legal g zero p l cs h = absurd h
leads_legal g (suc n) p [] cs h = absurd h
leads_legal g (suc n) p (m ∷ []) cs h = absurd h
leads_legal g (suc n) p (m ∷ r ∷ []) cs h = (h.0, (h.2, tt))
leads_legal g (suc n) p (m ∷ r ∷ s ∷ l) cs h = (h.0, (h.2, leads_legal g n (play g (play g p m) r) (s ∷ l) cs h.3))

-- SHORTEST WINS

shortest : WinsAreDecided → WinsStay → (g : Geometry) (p : Placement) (n : ℕ) → Win g p n → (k : ℕ) × IsShortest g p k
shortest decided stay g p zero w = absurd w
shortest decided stay g p (suc n) w = elim (decided g p n) [
  | inl v ↦ shortest decided stay g p n v
  | inr none ↦ (suc n, record { wins = w; none_less = λ k less v. none (stay.win g p k n (omega arith) v) })
]

shortest_only : (g : Geometry) (p : Placement) (i j : ℕ) → IsShortest g p i → IsShortest g p j → i ≡ j
shortest_only g p i j h k = elim (cases_order i j) [
  | inl e ↦ e
  | inr (inl l) ↦ absurd (k.none_less i l h.wins)
  | inr (inr l) ↦ absurd (h.none_less j l k.wins)
]

pub key_wins : (g : Geometry) (p : Placement) (n : ℕ) (m : Move) → IsWinning g p n m → Win g p n
key_wins g p zero m h = h
key_wins g p (suc n) m h = (m, h.0, h.1)

-- VERDICTS, by what is found

-- the least beginning is the dual
pub dual_found : WinsHaveLines → (g : Geometry) (p : Placement) (n : ℕ) (m : Move) (l cs : List Move)
    → HasOneKey g p n m → IsLeast (Before g p) (LeadsToChoices g n p) l cs → IsVerdict g p n (dual l cs)
dual_found lines g p n m l cs one d = (
  (m, one),
  leads_dual lines g n p l cs d.is,
  λ other others h. d.least other others (dual_leads g n p other others h),
)

-- with none it is sound
pub sound_found : (g : Geometry) (p : Placement) (n : ℕ) (m : Move) → HasOneKey g p n m
    → FindsLeast (Before g p) (LeadsToChoices g n p) None → IsVerdict g p n (sound m)
sound_found g p n m one none = (one, λ l cs h. none l cs (dual_leads g n p l cs h))

one_key : WinsHaveLines → (g : Geometry) (p : Placement) (n : ℕ) (m : Move) → HasOneKey g p n m
    → (d : Option (List Move × List Move)) × FindsLeast (Before g p) (LeadsToChoices g n p) d → (v : Verdict)
    × IsVerdict g p n v
one_key lines g p n m one (None, none) = (sound m, sound_found g p n m one none)
one_key lines g p n m one (Some d, found) = (dual d.0 d.1, dual_found lines g p n m d.0 d.1 one found)

-- there is a verdict
pub verdict_some : MovesListed → WinsAreDecided → WinsStay → MovesInOrder → MovesHaveKeys → WinsHaveLines → (g :
    Geometry) → IsBoard g → (p : Placement) (n : ℕ) → (v : Verdict) × IsVerdict g p n v
verdict_some listed decided stay order law lines g board p n = by_keys (keys_exist listed decided order g board p n)
  where
    by_keys : (ks : List Move) × Keys g p n ks → (v : Verdict) × IsVerdict g p n v
    by_keys ([], keys) = (unsolvable, keys)
    by_keys (k ∷ l ∷ ks, keys) =
        let s = shortest decided stay g p n (key_wins g p n k ((keys.exactly k).0 (inl refl))) in
        (cooked s.0 (k ∷ l ∷ ks), (keys, omega arith, inl (omega arith), s.1))
    by_keys (k ∷ [], keys) = elim (decided g p (n - 1)) [
      | inl w ↦ let s = shortest decided stay g p (n - 1) w in (cooked s.0 (k ∷ []), (keys, omega arith, inr w, s.1))
      | inr none ↦ one_key lines g p n k (keys, none) (choices_found listed decided order law g board n p (k ∷ [])
          keys)
    ]

one_of : MovesHaveKeys → (g : Geometry) (p : Placement) (n : ℕ) (ks : List Move) (m : Move) → Keys g p n ks
    → HasOneKey g p n m → (0 < length ks) × ((2 ≤ length ks) ⊎ Win g p (n - 1)) → ⊥
one_of law g p n ks m keys one h =
    let same : length ks ≡ 1 = ap (λ (l : List Move). length l) (keys_only law g p n ks (m ∷ []) keys one.0) in
    elim h.1 [ inl two ↦ omega arith | inr w ↦ one.1 w ]

none_of : MovesHaveKeys → (g : Geometry) (p : Placement) (n : ℕ) (m : Move) → Keys g p n [] → HasOneKey g p n m → ⊥
none_of law g p n m keys one = let e : [] ≡ m ∷ [] = keys_only law g p n [] (m ∷ []) keys one.0 in cc

dual_only : MovesHaveKeys → (g : Geometry) → IsBoard g → (p : Placement) (n : ℕ) (l cs k ds : List Move)
    → IsVerdict g p n (dual l cs) → IsVerdict g p n (dual k ds) → dual l cs ≡ dual k ds
dual_only law g board p n l cs k ds h i =
    let at_l = leads_legal g n p l cs (dual_leads g n p l cs h.1) in
    let at_k = leads_legal g n p k ds (dual_leads g n p k ds i.1) in
    let same : l ≡ k = elim (before_cases law g board p l k at_l at_k) [
      | inl e ↦ e
      | inr (inl less) ↦ absurd (i.2 l cs h.1 less)
      | inr (inr more) ↦ absurd (h.2 k ds i.1 more)
    ] in
    let turns : h.1.turns ≡ i.1.turns = omega (arith, h.1.even, i.1.even, ap (λ (z : List Move). length z) same) in
    let keys : Keys g (reach g p l) (n - h.1.turns) ds =
    subst (λ z. Keys g (reach g p z) (n - h.1.turns) ds) (sym same) (subst (λ t. Keys g (reach g p k) (n - t) ds)
    (sym turns) i.1.keys) in
    let choices : cs ≡ ds = keys_only law g (reach g p l) (n - h.1.turns) cs ds h.1.keys keys in
    cc

-- and only one
pub verdict_only : MovesHaveKeys → (g : Geometry) → IsBoard g → (p : Placement) (n : ℕ) (v w : Verdict)
    → IsVerdict g p n v → IsVerdict g p n w → v ≡ w
verdict_only law g board p n unsolvable unsolvable h k = refl
verdict_only law g board p n unsolvable (cooked j ks) h k =
    let same : length ks ≡ 0 = ap (λ (l : List Move). length l) (keys_only law g p n ks [] k.0 h) in let some = k.1 in
    absurd (omega arith)
verdict_only law g board p n unsolvable (dual l cs) h k = absurd (none_of law g p n k.0.0 h k.0.1)
verdict_only law g board p n unsolvable (sound m) h k = absurd (none_of law g p n m h k.0)
verdict_only law g board p n (cooked i ks) unsolvable h k =
    let same : length ks ≡ 0 = ap (λ (l : List Move). length l) (keys_only law g p n ks [] h.0 k) in let some = h.1 in
    absurd (omega arith)
verdict_only law g board p n (cooked i ks) (cooked j ls) h k =
    let e = shortest_only g p i j h.3 k.3 in let f = keys_only law g p n ks ls h.0 k.0 in cc
verdict_only law g board p n (cooked i ks) (dual l cs) h k = absurd (one_of law g p n ks k.0.0 h.0 k.0.1 (h.1, h.2))
verdict_only law g board p n (cooked i ks) (sound m) h k = absurd (one_of law g p n ks m h.0 k.0 (h.1, h.2))
verdict_only law g board p n (dual l cs) unsolvable h k = absurd (none_of law g p n h.0.0 k h.0.1)
verdict_only law g board p n (dual l cs) (cooked j ks) h k = absurd (one_of law g p n ks h.0.0 k.0 h.0.1 (k.1, k.2))
verdict_only law g board p n (dual l cs) (dual k ds) h i = dual_only law g board p n l cs k ds h i
verdict_only law g board p n (dual l cs) (sound m) h k = absurd (k.1 l cs h.1)
verdict_only law g board p n (sound m) unsolvable h k = absurd (none_of law g p n m k h.0)
verdict_only law g board p n (sound m) (cooked j ks) h k = absurd (one_of law g p n ks m k.0 h.0 (k.1, k.2))
verdict_only law g board p n (sound m) (dual l cs) h k = absurd (h.1 l cs k.1)
verdict_only law g board p n (sound m) (sound o) h k = let e : m ∷ [] ≡ o ∷ [] = keys_only law g p n (m ∷ []) (o ∷ [])
    h.0.0 k.0.0 in cc

-- TRIES

-- the tries among some moves in order
tries_of : (g : Geometry) (p : Placement) (n : ℕ)
    → ((m : Move) → (o : Option Move) × FindsRefutation g (play g p m) (n - 1) o) → (ms : List Move)
    → IsAscending (Precedes g p) ms → (ts : List (Move × Move)) × IsListOf (λ (s t : Move × Move). Precedes g p s.0 t.0)
    (λ (t : Move × Move). Member t.0 ms × IsRefutation g (play g p t.0) (n - 1) t.1) ts
tries_of g p n each [] a = ([], record { ascending = tt; exactly = λ t. ((λ m. absurd m), (λ h. absurd h.0)) })
tries_of g p n each (m ∷ ms) a = with_first (each m) (tries_of g p n each ms a.1) where
  with_first : (o : Option Move) × FindsRefutation g (play g p m) (n - 1) o → (ts : List (Move × Move))
      × IsListOf (λ (s t : Move × Move). Precedes g p s.0 t.0) (λ (t : Move × Move). Member t.0 ms
      × IsRefutation g (play g p t.0) (n - 1) t.1) ts → (ts : List (Move × Move))
      × IsListOf (λ (s t : Move × Move). Precedes g p s.0 t.0) (λ (t : Move × Move). Member t.0 (m ∷ ms)
      × IsRefutation g (play g p t.0) (n - 1) t.1) ts
  with_first (None, none) (ts, all) = (
    ts,
    record {
      ascending = all.ascending;
      exactly = λ t. (
        (λ k. let h = (all.exactly t).0 k in (inr h.0, h.1)),
        (λ h. elim h.0 [
          | inl e ↦ absurd (none t.1 (subst (λ z. IsRefutation g (play g p z) (n - 1) t.1) e h.1))
          | inr k ↦ (all.exactly t).1 (k, h.1)
        ]),
      );
    },
  )
  with_first (Some r, found) (ts, all) = (
    (m, r) ∷ ts,
    record {
      ascending = ((λ t k. a.0 t.0 ((all.exactly t).0 k).0), all.ascending);
      exactly = λ t. (
        (λ k. elim k [
          | inl e ↦ (
            inl (ap (λ (z : Move × Move). z.0) e),
            subst (λ (z : Move × Move). IsRefutation g (play g p z.0) (n - 1) z.1) (sym e) found,
          )
          | inr l ↦ let h =
              (all.exactly t).0 l in (inr h.0, h.1)
        ]),
        (λ h. elim h.0 [
          | inl e ↦
              let here = subst (λ z. IsRefutation g (play g p z) (n - 1) t.1) e h.1 in
              let same : t.1 ≡ r = found.only t.1 here.refutes in
              inl (λ i. (e i, same i))
          | inr k ↦ inr ((all.exactly t).1 (k, h.1))
        ]),
      );
    },
  )

pub tries_some : WinsAreDecided → MovesInOrder → MovesHaveKeys → (g : Geometry) → IsBoard g → (p : Placement) (n : ℕ)
    → (ts : List (Move × Move)) × Tries g p n ts
tries_some decided order law g board p n =
    let all = order.some g board p in
    let ts = tries_of g p n (λ m. refutation_some decided order law g board (play g p m) (n - 1)) all.0
    all.1.ascending in
    (ts.0, tries_listed g p n all.0 ts.0 all.1 ts.1)

pub tries_only : MovesHaveKeys → (g : Geometry) (p : Placement) (n : ℕ) (ts us : List (Move × Move)) → Tries g p n ts
    → Tries g p n us → ts ≡ us
tries_only law g p n ts us = list_only (λ (s t : Move × Move). Precedes g p s.0 t.0) (IsTry g p n)
    (λ (s t : Move × Move). precedes_asym law g p s.0 t.0) ts us
