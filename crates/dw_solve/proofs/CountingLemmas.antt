-- How many positions a content decides.
use Rattle.std.proofs.Common.{◌≡◌, ℕ, ◌+◌, ◌≤◌, zero, suc, List, [], ◌∷◌, length, map, refl, sym, subst, inl, inr}
use Rattle.std.proofs.Common.{arith, true, ◌↔◌}
use Rattle.std.specs.Prelude.{filter}
use Rattle.std.proofs.lemmas.Bool.{cases_Bool, le-leb, or_cases, or_left, or_right}
use Rattle.dw_board.specs.Placement.{Placement}
use Rattle.dw_memo.specs.Bounding.{decides, fails_decide, wins_decide}
use Rattle.dw_memo.specs.Content.{Entry, entry, Content, positions, IsMap}
use Rattle.dw_board.specs.Lists.{Member, NoRepeat}
use Rattle.dw_moves.specs.inner.MemberLemmas.{mem_map, mem_map_back, mem_filter, mem_filter_back, no_more}
use Rattle.dw_solve.specs.Facts.{IsDecided}
use Rattle.dw_solve.specs.Work.{Stronger, decided_at, decided_to}
use Rattle.dw_solve.proofs.MemoLemmas.{wins_known, fails_known}

-- the entries that decide n, and their positions
abbrev deciding : Content → ℕ → List Entry
deciding c n = filter (λ (e : Entry). decides e.bounds n) c

abbrev pub decided_list : Content → ℕ → List Placement
decided_list c n = positions (deciding c n)

map_length : {X Y : Type 0} (f : X → Y) → (xs : List X) → length (map f xs) ≡ length xs
map_length f [] = refl
map_length f (x ∷ xs) = omega (arith, map_length f xs)

pub decided_length : (c : Content) (n : ℕ) → length (decided_list c n) ≡ decided_at c n
decided_length c n = map_length (λ (e : Entry). e.position) (deciding c n)

pub decided_once : (c : Content) (n : ℕ) → NoRepeat (positions c) → NoRepeat (decided_list c n)
decided_once [] n u = tt
decided_once (e ∷ c) n u = elim (cases_Bool (decides e.bounds n)) [
  | inl t ↦ rw (t, filter) (
    (λ m. let w = mem_map_back (λ (e : Entry). e.position) e.position (deciding c n) m in
        let k = mem_filter_back (λ (e : Entry). decides e.bounds n) w.0 c w.1 in
        u.0 (subst (λ z. Member z (positions c)) (sym w.2) (mem_map (λ (e : Entry). e.position) w.0 c k.0))),
    decided_once c n u.1,
  )
  | inr f ↦ rw (f, filter) (decided_once c n u.1)
]

pub decided_from : (c : Content) (p : Placement) (n : ℕ) → Member p (decided_list c n) → IsDecided c p n
decided_from c p n m =
    let w = mem_map_back (λ (e : Entry). e.position) p (deciding c n) m in
    let k = mem_filter_back (λ (e : Entry). decides e.bounds n) w.0 c w.1 in
    let e : Entry = w.0 in
    let held : Member (entry e.position e.bounds) c = k.0 in
    subst (λ q. IsDecided c q n) (sym w.2) (elim (or_cases (wins_decide e.bounds.wins n) (fails_decide e.bounds.fails n)
    k.1) [
      | inl t ↦ inl (wins_known c e.position e.bounds n held t)
      | inr t ↦ inr (fails_known c e.position e.bounds n held t)
    ])

held_decides : (c : Content) (e : Entry) (p : Placement) (n : ℕ) → Member e c → e.position ≡ p → decides e.bounds n
    ≡ true → Member p (decided_list c n)
held_decides c e p n m about t =
    subst (λ z. Member z (decided_list c n)) about
    (mem_map (λ (e : Entry). e.position) e (deciding c n) (mem_filter (λ (e : Entry). decides e.bounds n) e c m t))

pub decided_in : (c : Content) (p : Placement) (n : ℕ) → IsDecided c p n → Member p (decided_list c n)
decided_in c p n (inl h) =
    let e : Entry = h.entry in
    let t : wins_decide e.bounds.wins n ≡ true = rw h.is (le-leb h.bound n h.enough) in
    held_decides c e p n h.held h.about (or_left (wins_decide e.bounds.wins n) (fails_decide e.bounds.fails n) t)
decided_in c p n (inr h) =
    let e : Entry = h.entry in
    let t : fails_decide e.bounds.fails n ≡ true = rw h.is (le-leb n h.bound h.enough) in
    held_decides c e p n h.held h.about (or_right (wins_decide e.bounds.wins n) (fails_decide e.bounds.fails n) t)

pub decided_counted : (c : Content) (n : ℕ) → IsMap c → (ps : List Placement) × NoRepeat ps
    × ((p : Placement) → Member p ps ↔ IsDecided c p n) × (length ps ≡ decided_at c n)
decided_counted c n u =
    let ps = decided_list c n in (
      ps,
      decided_once c n u,
      (λ p. ((λ m. decided_from c p n m), (λ h. decided_in c p n h))),
      decided_length c n,
    )

stays_decided : (old new : Content) (p : Placement) (n : ℕ) → Stronger old new → IsDecided old p n → IsDecided new p n
stays_decided old new p n s (inl h) = inl (s.wins p n h)
stays_decided old new p n s (inr h) = inr (s.fails p n h)

-- what says more decides at least as much
pub decided_grows : (old new : Content) (n : ℕ) → IsMap old → Stronger old new → decided_at old n ≤ decided_at new n
decided_grows old new n u s =
    omega (
      arith,
      no_more (decided_list old n) (decided_list new n) (decided_once old n u)
          (λ p m. decided_in new p n (stays_decided old new p n s (decided_from old p n m))),
      decided_length old n,
      decided_length new n,
    )

-- and more, where one more position is decided
pub decided_rises : (old new : Content) (p : Placement) (n : ℕ) → IsMap old → Stronger old new → (IsDecided old p n → ⊥)
    → IsDecided new p n → 1 + decided_at old n ≤ decided_at new n
decided_rises old new p n u s unknown known =
    let longer = no_more (p ∷ decided_list old n) (decided_list new n) (
      (λ m. unknown (decided_from old p n m)),
      decided_once old n u,
    )
    (λ q m. elim m [
      | inl e ↦ subst (λ z. Member z (decided_list new n)) (sym e) (decided_in new p n known)
      | inr m' ↦ decided_in new q n (stays_decided old new q n s (decided_from old q n m'))
    ]) in
    omega (arith, longer, decided_length old n, decided_length new n)

-- from n to k
pub decided_to_grows : (old new : Content) (k : ℕ) → IsMap old → Stronger old new → decided_to old k ≤ decided_to new k
decided_to_grows old new zero u s = omega arith
decided_to_grows old new (suc k) u s = omega (arith, decided_grows old new (suc k) u s, decided_to_grows old new k u s)
