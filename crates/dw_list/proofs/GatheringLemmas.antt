-- How the lists of all ways are made, move by move.
use Rattle.std.proofs.Common.{◌≡◌, ℕ, ◌+◌, ◌*◌, ◌≤◌, ◌<◌, zero, suc, Bool, true, false, cond, List, [], ◌∷◌, ◌++◌}
use Rattle.std.proofs.Common.{length, map, take, drop, get_or, refl, sym, ap, ◌∙◌, subst, ◌⊎◌, inl, inr, arith, IsTrue}
use Rattle.std.specs.Prelude.{not}
use Rattle.std.proofs.lemmas.Bool.{true≢false}
use Rattle.dw_board.specs.Geometry.{Geometry}
use Rattle.dw_board.specs.Placement.{Placement}
use Rattle.dw_moves.specs.Moves.{Move, Legal, play}
use Rattle.dw_moves.specs.Order.{Precedes, IsListOf}
use Rattle.dw_moves.specs.inner.MemberLemmas.{mem_at}
use Rattle.dw_solve.specs.inner.ListLemmas.{at_item}
use Rattle.dw_list.specs.inner.Ways.{left_after, AreWays, AreWaysAmong, Keeps, AreWaysThrough, AreAdded}
use Rattle.dw_list.proofs.WayLemmas.{through_kept, through_barred, ways_more, ways_all, ways_none}

pub ways_over : (g : Geometry) (a : Bool) (p : Placement) (n : ℕ) → ((IsTrue a → 1 ≤ n) → ⊥) → AreWays g a p n []
ways_over g true p zero h = record { ascending = tt; exactly = λ l. ((λ m. absurd m), (λ k. absurd k)) }
ways_over g true p (suc n) h = absurd (h (λ _. omega arith))
ways_over g false q n h = absurd (h (λ t. absurd (true≢false (sym t))))

pub added_kept : {V : Type 0} (items : V → List Move) (g : Geometry) (a : Bool) (p q : Placement) (n : ℕ) (m : Move)
    (vs ws : List V) (old new : List (List Move)) → q ≡ play g p m → Keeps g a q n
    → AreWays g (not a) q n (map items vs) → ws ≡ vs → new ≡ old ++ map (λ v. m ∷ items v) ws
    → AreAdded g a p n m old new
added_kept items g a p q n m vs ws old new there keeps ways same are = record {
  added = map (λ l. m ∷ l) (map items vs);
  ways = through_kept g a p n m (map items vs) (subst (λ z. Keeps g a z n) there keeps)
      (subst (λ z. AreWays g (not a) z n (map items vs)) there ways);
  are = are ∙ ap (λ z. old ++ map (λ v. m ∷ items v) z) same ∙ ap (λ z. old ++ z) (twice vs);
} where
  twice : (xs : List _) → map (λ v. m ∷ items v) xs ≡ map (λ l. m ∷ l) (map items xs)
  twice [] = refl
  twice (x ∷ xs) = ap (λ z. (m ∷ items x) ∷ z) (twice xs)

pub added_none : (g : Geometry) (a : Bool) (p q : Placement) (n : ℕ) (m : Move) (old : List (List Move))
    → q ≡ play g p m → (Keeps g a q n → ⊥) → AreAdded g a p n m old old
added_none g a p q n m old there barred = record {
  added = [];
  ways = through_barred g a p n m (λ h. barred (subst (λ z. Keeps g a z n) (sym there) h));
  are = nothing old;
} where
  nothing : (xs : List (List Move)) → xs ≡ xs ++ []
  nothing [] = refl
  nothing (x ∷ xs) = ap (λ z. x ∷ z) (nothing xs)

pub among_none : (g : Geometry) (a : Bool) (p : Placement) (n : ℕ) (ls : List (List Move)) → ls ≡ []
    → AreWaysAmong g a p n [] [] → AreWaysAmong g a p n [] ls
among_none g a p n ls e h = subst (λ z. AreWaysAmong g a p n [] z) (sym e) h

pub added_more : {V : Type 0} (step : V → Move) (g : Geometry) (a : Bool) (p : Placement) (n left : ℕ) (xs : List V)
    (i : ℕ) (x : V) (m : Move) (ls ks : List (List Move)) → (IsTrue a → 1 ≤ n) → left ≡ left_after a n
    → IsListOf (Precedes g p) (Legal g p) (map step xs) → i < length xs → x ≡ get_or xs i x → step x ≡ m
    → AreWaysAmong g a p n (map step (take i xs)) ls → AreAdded g a p left m ls ks
    → AreWaysAmong g a p n (map step (take (i + 1) xs)) ks
added_more step g a p n left xs i x m ls ks some left_is all low at same before added =
    let parts = at_item step xs i x low at in
    let one : i + 1 ≡ suc i = omega arith in
    let whole = subst (IsListOf (Precedes g p) (Legal g p)) parts.0 all in
    let through : AreWaysThrough g a p (left_after a n) (step x) added.added =
    subst (λ z. AreWaysThrough g a p z (step x) added.added) left_is
    (subst (λ z. AreWaysThrough g a p left z added.added) (sym same) added.ways) in
    let more = ways_more g a p n (map step (take i xs)) (map step (drop (suc i) xs)) (step x) ls added.added some whole
    before through in
    subst (λ z. AreWaysAmong g a p n (map step (take z xs)) ks) (sym one)
    (subst (λ z. AreWaysAmong g a p n z ks) (sym parts.1)
    (subst (λ z. AreWaysAmong g a p n (map step (take i xs) ++ step x ∷ []) z) (sym added.are) more))

take_all : {V : Type 0} (xs : List V) → take (length xs) xs ≡ xs
take_all [] = refl
take_all (x ∷ xs) = ap (λ z. x ∷ z) (take_all xs)

pub ways_whole : {V : Type 0} (step : V → Move) (g : Geometry) (a : Bool) (p : Placement) (n : ℕ) (xs : List V) (i : ℕ)
    (ls first : List (List Move)) → IsListOf (Precedes g p) (Legal g p) (map step xs) → i ≡ length xs
    → ((a ≡ true) ⊎ (0 < length xs) → AreWaysAmong g a p n (map step (take i xs)) ls) → (length xs ≡ 0 → ls ≡ first)
    → (a ≡ false → length xs ≡ 0 → first ≡ [] ∷ []) → AreWays g a p n ls
ways_whole step g true p n xs i ls first all e among none end =
    ways_all g true p n (map step xs) ls all (inl refl) (subst (λ z. AreWaysAmong g true p n (map step z) ls)
    (ap (λ z. take z xs) e ∙ take_all xs) (among (inl refl)))
ways_whole step g false p n [] i ls first all e among none end =
    subst (AreWays g false p n) (sym (none refl ∙ end refl refl)) (ways_none g p n [] all refl)
ways_whole step g false p n (x ∷ xs) i ls first all e among none end =
    ways_all g false p n (map step (x ∷ xs)) ls all (inr (omega arith))
    (subst (λ z. AreWaysAmong g false p n (map step z) ls) (ap (λ z. take z (x ∷ xs)) e ∙ take_all (x ∷ xs))
    (among (inr (omega arith))))

pub measure_falls : (a : Bool) (n left : ℕ) → (IsTrue a → 1 ≤ n) → left ≡ left_after a n → 4 * left + cond a 3 1
    < 4 * n + cond a 0 2
measure_falls true zero left some e = let one : 1 ≤ 0 = some refl in absurd (omega arith)
measure_falls true (suc n) left some e = omega arith
measure_falls false n left some e = omega arith

pub left_within : (a : Bool) (n left : ℕ) → left ≡ left_after a n → left ≤ n
left_within true zero left e = omega arith
left_within true (suc n) left e = omega arith
left_within false n left e = omega arith

-- a move of the list is legal
pub legal_at : {V : Type 0} (step : V → Move) (g : Geometry) (p : Placement) (xs : List V) (i : ℕ) (x : V) (m : Move)
    → IsListOf (Precedes g p) (Legal g p) (map step xs) → i < length xs → x ≡ get_or xs i x → step x ≡ m → Legal g p m
legal_at step g p xs i x m all low at same =
    let parts = at_item step xs i x low at in
    let whole = subst (IsListOf (Precedes g p) (Legal g p)) parts.0 all in
    subst (Legal g p) same ((whole.exactly (step x)).0 (mem_at (step x) (map step (take i xs))
    (map step (drop (suc i) xs))))
