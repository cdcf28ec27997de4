-- The least beginning that leads to choices, looked for move by move.
use Rattle.std.proofs.Common.{◌≡◌, ℕ, ◌+◌, ◌*◌, ◌-◌, ◌≤◌, zero, suc, List, [], ◌∷◌, ◌++◌, length, refl, sym, subst, ◌⊎◌}
use Rattle.std.proofs.Common.{inl, inr, arith, Option, Some, None, append_assoc, append-nil}
use Rattle.std.specs.Prelude.{nat_le}
use Rattle.std.proofs.lemmas.Bool.{cases_Bool, leb-true, le-leb}
use Rattle.dw_board.specs.Geometry.{Geometry, IsBoard}
use Rattle.dw_board.specs.Placement.{Placement}
use Rattle.dw_moves.specs.Moves.{Move, Legal, play}
use Rattle.dw_board.specs.Lists.{Member}
use Rattle.dw_moves.specs.Order.{Precedes, IsAscending, IsListOf}
use Rattle.dw_moves.specs.inner.MemberLemmas.{mem_cases}
use Rattle.dw_moves.specs.Laws.{MovesListed, MovesInOrder, MovesHaveKeys}
use Rattle.dw_solve.specs.Wins.{Win, Lost}
use Rattle.dw_solve.specs.Laws.{WinsAreDecided, WinsHaveLines}
use Rattle.dw_solve.specs.Lines.{Before}
use Rattle.dw_solve.specs.inner.LineOrderLemmas.{precedes_asym}
use Rattle.dw_moves.specs.inner.OneListLemmas.{list_only}
use Rattle.dw_solve.specs.inner.ListLemmas.{ascending_parts, listed_where}
use Rattle.dw_verdict.specs.Verdict.{IsWinning, Keys, reach, IsDual}
use Rattle.dw_verdict.specs.inner.Judging.{LeadsToChoices, ComesToChoices, RepliesToChoices, IsLeast, FindsLeast}

-- KEYS

pub keys_only : MovesHaveKeys → (g : Geometry) (p : Placement) (n : ℕ) (ms ks : List Move) → Keys g p n ms
    → Keys g p n ks → ms ≡ ks
keys_only law g p n ms ks = list_only (Precedes g p) (IsWinning g p n) (precedes_asym law g p) ms ks

all_or_not : {X : Type 0} (P : X → Type 0) → ((x : X) → P x ⊎ (P x → ⊥)) → (xs : List X) → ((x : X) → Member x xs → P x)
    ⊎ ((x : X) × Member x xs × (P x → ⊥))
all_or_not P each [] = inl (λ x m. absurd m)
all_or_not P each (x ∷ xs) = elim (each x) [
  | inr n ↦ inr (x, inl refl, n)
  | inl here ↦ elim (all_or_not P each xs) [
    | inr n ↦ inr (n.0, inr n.1, n.2)
    | inl all ↦ inl (λ y m. elim m [ inl e ↦ subst P (sym e) here | inr k ↦ all y k ])
  ]
]

pub lost_or_not : MovesListed → WinsAreDecided → (g : Geometry) (q : Placement) (n : ℕ) → Lost g q n ⊎ (Lost g q n → ⊥)
lost_or_not listed decided g q n = elim (all_or_not (λ r. Win g (play g q r) n) (λ r. decided g (play g q r) n)
    (listed g q).0) [
      | inl all ↦ inl (λ r legal. all r (((listed g q).1 r).1 legal))
      | inr s ↦ inr (λ lost. s.2 (lost s.0 (((listed g q).1 s.0).0 s.1)))
    ]

-- there is a list of the keys
pub keys_exist : MovesListed → WinsAreDecided → MovesInOrder → (g : Geometry) → IsBoard g → (p : Placement) (n : ℕ)
    → (ks : List Move) × Keys g p n ks
keys_exist listed decided order g board p zero =
    ([], record { ascending = tt; exactly = λ x. ((λ m. absurd m), (λ h. absurd h)) })
keys_exist listed decided order g board p (suc n) =
    let all = order.some g board p in
    let f = listed_where (Precedes g p) (Legal g p) (λ m. Lost g (play g p m) n) (λ m. lost_or_not listed decided g
    (play g p m) n) all.0 all.1 in
    (f.0, record { ascending = f.1.ascending; exactly = f.1.exactly })

-- BEGINNINGS

-- such a beginning is never with one of these moves
abbrev pub NoneThrough : (List Move → List Move → Type 0) → List Move → Type 0
NoneThrough P moves = (m : Move) → Member m moves → (l cs : List Move) → P (m ∷ l) cs → ⊥

-- each such beginning begins with one of these moves
abbrev pub BeginWith : (List Move → List Move → Type 0) → List Move → Type 0
BeginWith P moves = ((cs : List Move) → P [] cs → ⊥) × ((m : Move) (l cs : List Move) → P (m ∷ l) cs → Member m moves)

pub found_through : MovesHaveKeys → (g : Geometry) (p : Placement) (P : List Move → List Move
    → Type 0) (before after : List Move) (m : Move) (l cs : List Move) → BeginWith P (before ++ m ∷ after)
    → IsAscending (Precedes g p) (before ++ m ∷ after) → NoneThrough P before
    → IsLeast (Before g (play g p m)) (λ k ds. P (m ∷ k) ds) l cs → IsLeast (Before g p) P (m ∷ l) cs
found_through law g p P before after m l cs begins order none found = record { is = found.is; least = none_less } where
  none_less : (other others : List Move) → P other others → Before g p other (m ∷ l) → ⊥
  none_less [] others h b = begins.0 others h
  none_less (x ∷ other) others h (inl first) = elim (mem_cases x before (m ∷ after) (begins.1 x other others h)) [
    | inl early ↦ none x early other others h
    | inr (inl e) ↦ let same = subst (λ z. Precedes g p z m) e first in precedes_asym law g p m m same same
    | inr (inr late) ↦ precedes_asym law g p x m first ((ascending_parts (Precedes g p) before (m ∷ after) order).0.0 x
        late)
  ]
  none_less (x ∷ other) others h (inr b) = found.least other others (subst (λ z. P (z ∷ other) others) b.0 h)
      (subst (λ z. Before g (play g p z) other l) b.0 b.1)

pub none_more : (P : List Move → List Move → Type 0) (before : List Move) (m : Move) → NoneThrough P before
    → ((l cs : List Move) → P (m ∷ l) cs → ⊥) → NoneThrough P (before ++ m ∷ [])
none_more P before m none here x member l cs h = elim (mem_cases x before (m ∷ []) member) [
  | inl early ↦ none x early l cs h
  | inr (inl e) ↦ here l cs (subst (λ z. P (z ∷ l) cs) e h)
  | inr (inr over) ↦ over
]

pub none_at_all : (P : List Move → List Move → Type 0) (moves : List Move) → BeginWith P moves → NoneThrough P moves
    → (l cs : List Move) → P l cs → ⊥
none_at_all P moves begins none [] cs h = begins.0 cs h
none_at_all P moves begins none (m ∷ l) cs h = none m (begins.1 m l cs h) l cs h

-- the same beginnings, said otherwise
pub finds_as : (Less P Q : List Move → List Move → Type 0) (d : Option (List Move × List Move))
    → ((l cs : List Move) → P l cs → Q l cs) → ((l cs : List Move) → Q l cs → P l cs) → FindsLeast Less P d
    → FindsLeast Less Q d
finds_as Less P Q None to back h = λ l cs q. h l cs (back l cs q)
finds_as Less P Q (Some d) to back h = record {
  is = to d.0 d.1 h.is;
  least = λ other others q. h.least other others (back other others q);
}

-- with one more move in front
abbrev pub with_first : Move → Option (List Move × List Move) → Option (List Move × List Move)
with_first m None = None
with_first m (Some d) = Some (m ∷ d.0, d.1)

-- what is found of all such beginnings
abbrev pub Found : Geometry → Placement → (List Move → List Move → Type 0) → Type 0
Found g p P = (d : Option (List Move × List Move)) × FindsLeast (Before g p) P d

-- after a move: what is found behind it, or else what is found without it
found_or : MovesHaveKeys → (g : Geometry) (p : Placement) (P : List Move → List Move
    → Type 0) (before after : List Move) (m : Move) → BeginWith P (before ++ m ∷ after)
    → IsAscending (Precedes g p) (before ++ m ∷ after) → NoneThrough P before
    → Found g (play g p m) (λ l cs. P (m ∷ l) cs) → (((l cs : List Move) → P (m ∷ l) cs → ⊥) → Found g p P)
    → Found g p P
found_or law g p P before after m begins order none (None, here) on = on here
found_or law g p P before after m begins order none (Some d, here) on =
    (Some (m ∷ d.0, d.1), found_through law g p P before after m d.0 d.1 begins order none here)

-- looked for among the moves of a list, in order
pub searched : MovesHaveKeys → (g : Geometry) (p : Placement) (P : List Move → List Move
    → Type 0) (before after : List Move) → BeginWith P (before ++ after) → IsAscending (Precedes g p) (before ++ after)
    → NoneThrough P before → ((m : Move) → Member m after → Found g (play g p m) (λ l cs. P (m ∷ l) cs)) → Found g p P
searched law g p P before [] begins order none each =
    (None, none_at_all P (before ++ []) begins (subst (NoneThrough P) (sym (append-nil before)) none))
searched law g p P before (m ∷ after) begins order none each =
    let one_more : before ++ m ∷ after ≡ (before ++ m ∷ []) ++ after = sym (append_assoc before (m ∷ []) after) in
    found_or law g p P before after m begins order none (each m (inl refl)) (λ here.
    searched law g p P (before ++ m ∷ []) after (subst (BeginWith P) one_more begins)
    (subst (IsAscending (Precedes g p)) one_more order) (none_more P before m none here) (λ x k. each x (inr k)))

-- CHOICES

pub leads_to : (g : Geometry) (n : ℕ) (p : Placement) (m : Move) (l cs : List Move) → IsWinning g p (suc n) m
    → RepliesToChoices g n (play g p m) l cs → LeadsToChoices g (suc n) p (m ∷ l) cs
leads_to g n p m [] cs key h = absurd h
leads_to g n p m (r ∷ []) cs key h = (key.0, key.1, h.0, h.1.0, h.1.1)
leads_to g n p m (r ∷ s ∷ l) cs key h = (key.0, key.1, h.0, h.1)

pub leads_from : (g : Geometry) (n : ℕ) (p : Placement) (m : Move) (l cs : List Move)
    → LeadsToChoices g (suc n) p (m ∷ l) cs → IsWinning g p (suc n) m × RepliesToChoices g n (play g p m) l cs
leads_from g n p m [] cs h = absurd h
leads_from g n p m (r ∷ []) cs h = ((h.0, h.1), (h.2, (h.3, h.4)))
leads_from g n p m (r ∷ s ∷ l) cs h = ((h.0, h.1), (h.2, h.3))

leads_never_empty : (g : Geometry) (n : ℕ) (p : Placement) (cs : List Move) → LeadsToChoices g n p [] cs → ⊥
leads_never_empty g zero p cs h = h
leads_never_empty g (suc n) p cs h = h

pub leads_begin : (g : Geometry) (n : ℕ) (p : Placement) (ks : List Move) → Keys g p n ks
    → BeginWith (LeadsToChoices g n p) ks
leads_begin g zero p ks keys = ((λ cs h. h), λ m l cs h. absurd h)
leads_begin g (suc n) p ks keys = ((λ cs h. h), λ m l cs h. (keys.exactly m).1 (leads_from g n p m l cs h).0)

pub replies_begin : (g : Geometry) (n : ℕ) (q : Placement) (rs : List Move) → IsListOf (Precedes g q) (Legal g q) rs
    → BeginWith (RepliesToChoices g n q) rs
replies_begin g n q rs all = ((λ cs h. h), λ r l cs h. (all.exactly r).1 h.0)

-- several keys are choices at once
pub comes_at_once : (g : Geometry) (n : ℕ) (x : Placement) (ks : List Move) → Keys g x n ks → 2 ≤ length ks
    → IsLeast (Before g x) (ComesToChoices g n x) [] ks
comes_at_once g n x ks keys two = record { is = (keys, two); least = none_less } where
  none_less : (other others : List Move) → ComesToChoices g n x other others → Before g x other [] → ⊥
  none_less [] others h b = b
  none_less (m ∷ other) others h b = b

-- fewer are none
pub comes_later : MovesHaveKeys → (g : Geometry) (n : ℕ) (x : Placement) (ks : List Move) (d : Option (List Move
    × List Move)) → Keys g x n ks → (2 ≤ length ks → ⊥) → FindsLeast (Before g x) (LeadsToChoices g n x) d
    → FindsLeast (Before g x) (ComesToChoices g n x) d
comes_later law g n x ks d keys few h = finds_as (Before g x) (LeadsToChoices g n x) (ComesToChoices g n x) d to back h
  where
    to : (l cs : List Move) → LeadsToChoices g n x l cs → ComesToChoices g n x l cs
    to [] cs k = absurd (leads_never_empty g n x cs k)
    to (m ∷ l) cs k = k

    back : (l cs : List Move) → ComesToChoices g n x l cs → LeadsToChoices g n x l cs
    back [] cs k = absurd (few (subst (λ z. 2 ≤ length z) (keys_only law g x n cs ks k.0 keys) k.1))
    back (m ∷ l) cs k = k

-- after a legal reply
pub replies_as : (g : Geometry) (n : ℕ) (q : Placement) (r : Move) (d : Option (List Move × List Move)) → Legal g q r
    → FindsLeast (Before g (play g q r)) (ComesToChoices g n (play g q r)) d
    → FindsLeast (Before g (play g q r)) (λ l cs. RepliesToChoices g n q (r ∷ l) cs) d
replies_as g n q r d legal h = finds_as (Before g (play g q r)) (ComesToChoices g n (play g q r))
    (λ l cs. RepliesToChoices g n q (r ∷ l) cs) d (λ l cs k. (legal, k)) (λ l cs k. k.1) h

-- after a key
pub leads_as : (g : Geometry) (n : ℕ) (p : Placement) (m : Move) (d : Option (List Move × List Move))
    → IsWinning g p (suc n) m → FindsLeast (Before g (play g p m)) (RepliesToChoices g n (play g p m)) d
    → FindsLeast (Before g (play g p m)) (λ l cs. LeadsToChoices g (suc n) p (m ∷ l) cs) d
leads_as g n p m d key h = finds_as (Before g (play g p m)) (RepliesToChoices g n (play g p m))
    (λ l cs. LeadsToChoices g (suc n) p (m ∷ l) cs) d (λ l cs k. leads_to g n p m l cs key k)
    (λ l cs k. (leads_from g n p m l cs k).1) h

-- at a position: several keys, or what is found later
comes_found : MovesHaveKeys → (g : Geometry) (n : ℕ) (x : Placement) → (ks : List Move) × Keys g x n ks
    → ((ks : List Move) → Keys g x n ks → Found g x (LeadsToChoices g n x)) → Found g x (ComesToChoices g n x)
comes_found law g n x found later = elim (cases_Bool (nat_le 2 (length found.0))) [
  | inl two ↦ (Some ([], found.0), comes_at_once g n x found.0 found.1 (leb-true 2 (length found.0) two))
  | inr few ↦
      let d = later found.0 found.1 in
      (d.0, comes_later law g n x found.0 d.0 found.1 (λ two. let t = le-leb 2 (length found.0) two in cc) d.1)
]

-- after a key: what is found behind its replies
key_found : MovesHaveKeys → (g : Geometry) (n : ℕ) (p : Placement) (m : Move) (rs : List Move) → IsWinning g p (suc n) m
    → IsListOf (Precedes g (play g p m)) (Legal g (play g p m)) rs
    → ((x : Placement) → Found g x (ComesToChoices g n x))
    → Found g (play g p m) (λ l cs. LeadsToChoices g (suc n) p (m ∷ l) cs)
key_found law g n p m rs key all comes =
    let q = play g p m in
    let found = searched law g q (RepliesToChoices g n q) [] rs (replies_begin g n q rs all) all.ascending
    (λ r h. absurd h)
    (λ r h. let c = comes (play g q r) in (c.0, replies_as g n q r c.0 ((all.exactly r).0 h) c.1)) in
    (found.0, leads_as g n p m found.0 key found.1)

-- there is a least beginning, or there is none
pub choices_found : MovesListed → WinsAreDecided → MovesInOrder → MovesHaveKeys → (g : Geometry) → IsBoard g
    → (n : ℕ) (p : Placement) (ks : List Move) → Keys g p n ks → Found g p (LeadsToChoices g n p)
choices_found listed decided order law g board zero p ks keys = (None, λ l cs h. h)
choices_found listed decided order law g board (suc n) p ks keys =
    searched law g p (LeadsToChoices g (suc n) p) [] ks (leads_begin g (suc n) p ks keys) keys.ascending
    (λ m k. absurd k)
    (λ m k. let rs = order.some g board (play g p m) in key_found law g n p m rs.0 ((keys.exactly m).0 k) rs.1
    (λ x. comes_found law g n x (keys_exist listed decided order g board x n) (λ later. choices_found listed decided
    order law g board n x later)))

-- a beginning is short
pub leads_short : (g : Geometry) (n : ℕ) (p : Placement) (l cs : List Move) → LeadsToChoices g n p l cs
    → length l + 2 ≤ 2 * n
leads_short g zero p l cs h = absurd h
leads_short g (suc n) p [] cs h = absurd h
leads_short g (suc n) p (m ∷ []) cs h = absurd h
leads_short g (suc zero) p (m ∷ r ∷ []) [] h = let two = h.4 in absurd (omega arith)
leads_short g (suc zero) p (m ∷ r ∷ []) (c ∷ cs) h = absurd ((h.3.exactly c).0 (inl refl))
leads_short g (suc (suc n)) p (m ∷ r ∷ []) cs h = omega arith
leads_short g (suc n) p (m ∷ r ∷ s ∷ l) cs h = let k = leads_short g n (play g (play g p m) r) (s ∷ l) cs h.3 in
    omega (arith, k)

pub replies_short : (g : Geometry) (n : ℕ) (q : Placement) (l cs : List Move) → RepliesToChoices g n q l cs
    → length l + 1 ≤ 2 * n
replies_short g n q [] cs h = absurd h
replies_short g zero q (r ∷ []) [] h = let two = h.1.1 in absurd (omega arith)
replies_short g zero q (r ∷ []) (c ∷ cs) h = absurd ((h.1.0.exactly c).0 (inl refl))
replies_short g (suc n) q (r ∷ []) cs h = omega arith
replies_short g n q (r ∷ s ∷ l) cs h = let k = leads_short g n (play g q r) (s ∷ l) cs h.1 in omega (arith, k)

-- DUALS

pub dual_leads : (g : Geometry) (n : ℕ) (p : Placement) (l cs : List Move) → IsDual g p n l cs
    → LeadsToChoices g n p l cs
dual_leads g zero p l cs h = h.line
dual_leads g (suc n) p [] cs h = absurd (omega (arith, h.even, h.later))
dual_leads g (suc n) p (m ∷ []) cs h = absurd (omega (arith, h.even))
dual_leads g (suc n) p (m ∷ r ∷ []) cs h =
    let left : suc n - h.turns ≡ n = omega (arith, h.even) in
    (h.line.0, h.line.1, h.line.2, subst (λ k. Keys g (play g (play g p m) r) k cs) left h.keys, h.several)
dual_leads g (suc n) p (m ∷ r ∷ s ∷ l) cs h =
    let left : suc n - h.turns ≡ n - (h.turns - 1) = omega (arith, h.even) in (
      h.line.0,
      h.line.1,
      h.line.2,
      dual_leads g n (play g (play g p m) r) (s ∷ l) cs (record {
        rest = h.rest;
        line = h.line.3;
        turns = h.turns - 1;
        later = omega (arith, h.even);
        even = omega (arith, h.even);
        keys = subst (λ k. Keys g (reach g (play g (play g p m) r) (s ∷ l)) k cs) left h.keys;
        several = h.several;
      }),
    )

pub leads_dual : WinsHaveLines → (g : Geometry) (n : ℕ) (p : Placement) (l cs : List Move)
    → LeadsToChoices g n p l cs → IsDual g p n l cs
leads_dual law g zero p l cs h = absurd h
leads_dual law g (suc n) p [] cs h = absurd h
leads_dual law g (suc n) p (m ∷ []) cs h = absurd h
leads_dual law g (suc n) p (m ∷ r ∷ []) cs h =
    let line = (law g (play g (play g p m) r) n).0 (h.1 r h.2) in
    let left : n ≡ suc n - 1 = omega arith in
    record {
      rest = line.0;
      line = (h.0, h.1, h.2, line.1);
      turns = 1;
      later = omega arith;
      even = refl;
      keys = subst (λ k. Keys g (play g (play g p m) r) k cs) left h.3;
      several = h.4;
    }
leads_dual law g (suc n) p (m ∷ r ∷ s ∷ l) cs h =
    let d = leads_dual law g n (play g (play g p m) r) (s ∷ l) cs h.3 in
    let left : n - d.turns ≡ suc n - suc d.turns = omega arith in
    record {
      rest = d.rest;
      line = (h.0, h.1, h.2, d.line);
      turns = suc d.turns;
      later = omega arith;
      even = omega (arith, d.even);
      keys = subst (λ k. Keys g (reach g (play g (play g p m) r) (s ∷ l)) k cs) left d.keys;
      several = d.several;
    }
