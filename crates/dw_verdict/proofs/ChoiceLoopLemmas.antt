-- The first choice, looked for move by move.
use Rattle.std.proofs.Common.{◌≡◌, ℕ, ◌+◌, ◌-◌, ◌<◌, ◌≤◌, zero, suc, List, [], ◌∷◌, length, map, take, drop, get_or}
use Rattle.std.proofs.Common.{refl, sym, ap, subst, arith, Option}
use Rattle.std.proofs.lemmas.List.{take_all}
use Rattle.dw_board.specs.Geometry.{Geometry}
use Rattle.dw_board.specs.Placement.{Placement}
use Rattle.dw_moves.specs.Moves.{Move, Legal, play}
use Rattle.dw_moves.specs.Order.{Precedes, IsAscending}
use Rattle.dw_moves.specs.Laws.{MovesHaveKeys}
use Rattle.dw_solve.specs.Lines.{Before}
use Rattle.dw_solve.specs.inner.ListLemmas.{at_item}
use Rattle.dw_verdict.specs.Verdict.{IsWinning, Keys}
use Rattle.dw_verdict.specs.inner.Judging.{LeadsToChoices, ComesToChoices, RepliesToChoices, IsLeast, FindsLeast}
use Rattle.dw_verdict.proofs.ChoiceLemmas.{NoneThrough, BeginWith, found_through, none_more, none_at_all, leads_as}
use Rattle.dw_verdict.proofs.ChoiceLemmas.{replies_as, leads_short, replies_short}

-- nothing is found behind the first so many moves
abbrev pub NoneTo : {V : Type 0} → (V → Move) → (List Move → List Move → Type 0) → List V → ℕ → Type 0
NoneTo step P xs i = NoneThrough P (map step (take i xs))

pub none_to_more : {V : Type 0} (step : V → Move) (P : List Move → List Move → Type 0) (xs : List V) (i : ℕ) (x : V)
    → i < length xs → x ≡ get_or xs i x → ((l cs : List Move) → P (step x ∷ l) cs → ⊥) → NoneTo step P xs i
    → NoneTo step P xs (i + 1)
none_to_more step P xs i x low at here none =
    let parts = at_item step xs i x low at in
    let one : i + 1 ≡ suc i = omega arith in
    subst (λ z. NoneTo step P xs z) (sym one) (subst (NoneThrough P) (sym parts.1) (none_more P (map step (take i xs))
    (step x) none here))

pub none_to_all : {V : Type 0} (step : V → Move) (P : List Move → List Move → Type 0) (xs : List V) (i : ℕ)
    → length xs ≤ i → BeginWith P (map step xs) → NoneTo step P xs i → (l cs : List Move) → P l cs → ⊥
none_to_all step P xs i end begins none = none_at_all P (map step xs) begins (subst (λ z. NoneThrough P (map step z))
    (take_all i xs end) none)

pub found_at : {V : Type 0} → MovesHaveKeys → (step : V → Move) (g : Geometry) (p : Placement) (P : List Move
    → List Move → Type 0) (xs : List V) (i : ℕ) (x : V) (l cs : List Move) → BeginWith P (map step xs)
    → IsAscending (Precedes g p) (map step xs) → i < length xs → x ≡ get_or xs i x → NoneTo step P xs i
    → IsLeast (Before g (play g p (step x))) (λ k ds. P (step x ∷ k) ds) l cs → IsLeast (Before g p) P (step x ∷ l) cs
found_at law step g p P xs i x l cs begins order low at none found =
    let parts = at_item step xs i x low at in
    found_through law g p P (map step (take i xs)) (map step (drop (suc i) xs)) (step x) l cs
    (subst (BeginWith P) parts.0 begins) (subst (IsAscending (Precedes g p)) parts.0 order) none found

pub map_same : {X : Type 0} (xs : List X) → map (λ x. x) xs ≡ xs
map_same [] = refl
map_same (x ∷ xs) = ap (λ z. x ∷ z) (map_same xs)

-- after a key, said with the number of moves there
pub after_key : (g : Geometry) (n : ℕ) (p q : Placement) (m : Move) (d : Option (List Move × List Move))
    → q ≡ play g p m → IsWinning g p n m → FindsLeast (Before g q) (RepliesToChoices g (n - 1) q) d
    → FindsLeast (Before g (play g p m)) (λ l cs. LeadsToChoices g n p (m ∷ l) cs) d
after_key g zero p q m d there key h = absurd key
after_key g (suc n) p q m d there key h =
    let less : suc n - 1 ≡ n = omega arith in
    leads_as g n p m d key (subst (λ z. FindsLeast (Before g z) (RepliesToChoices g n z) d) there
    (subst (λ k. FindsLeast (Before g q) (RepliesToChoices g k q) d) less h))

pub some_left : (g : Geometry) (p : Placement) (n : ℕ) (m : Move) → IsWinning g p n m → 1 ≤ n
some_left g p zero m h = absurd h
some_left g p (suc n) m h = omega arith

pub room_for_key : (g : Geometry) (n : ℕ) (p : Placement) (m : Move) (l cs : List Move) → n ≤ 20
    → LeadsToChoices g n p (m ∷ l) cs → length l < 38
room_for_key g n p m l cs few h = let k = leads_short g n p (m ∷ l) cs h in omega (arith, k, few)

pub room_for_reply : (g : Geometry) (n : ℕ) (q : Placement) (r : Move) (l cs : List Move) → n ≤ 19
    → RepliesToChoices g n q (r ∷ l) cs → length l < 38
room_for_reply g n q r l cs few h = let k = replies_short g n q (r ∷ l) cs h in omega (arith, k, few)

-- after a reply
pub after_reply : (g : Geometry) (n : ℕ) (q x : Placement) (r : Move) (d : Option (List Move × List Move))
    → x ≡ play g q r → Legal g q r → FindsLeast (Before g x) (ComesToChoices g n x) d
    → FindsLeast (Before g (play g q r)) (λ l cs. RepliesToChoices g n q (r ∷ l) cs) d
after_reply g n q x r d there legal h = replies_as g n q r d legal
    (subst (λ z. FindsLeast (Before g z) (ComesToChoices g n z) d) there h)

-- lists that are the same
pub least_is : (Less P : List Move → List Move → Type 0) (l cs k ds : List Move) → l ≡ k → cs ≡ ds → IsLeast Less P k ds
    → IsLeast Less P l cs
least_is Less P l cs k ds e f h = subst (λ z. IsLeast Less P z cs) (sym e) (subst (IsLeast Less P k) (sym f) h)

-- several moves that win here are the first choice
pub first_here : (g : Geometry) (n : ℕ) (p : Placement) (at choices : List Move) → at ≡ [] → Keys g p n choices
    → 2 ≤ length choices → IsLeast (Before g p) (ComesToChoices g n p) at choices
first_here g n p at choices e keys two = subst (λ z. IsLeast (Before g p) (ComesToChoices g n p) z choices) (sym e)
    (record { is = (keys, two); least = λ other others h before. none_before other before }) where
      none_before : (other : List Move) → Before g p other [] → ⊥
      none_before [] before = absurd before
      none_before (m ∷ l) before = absurd before
