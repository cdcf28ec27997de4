-- How lines go on, move by move, and the lists of it.
use Rattle.std.proofs.Common.{◌≡◌, ℕ, ◌≤◌, ◌<◌, ◌↔◌, zero, suc, Bool, true, false, List, [], ◌∷◌, ◌++◌, length, map}
use Rattle.std.proofs.Common.{refl, sym, subst, ◌⊎◌, inl, inr, arith, IsTrue, Result}
use Rattle.std.specs.Prelude.{not, IfOk}
use Rattle.std.proofs.lemmas.Bool.{true≢false}
use Rattle.dw_board.specs.Geometry.{Geometry}
use Rattle.dw_board.specs.Placement.{Placement}
use Rattle.dw_moves.specs.Moves.{Move, Legal, play, NoMove}
use Rattle.dw_board.specs.Lists.{Member}
use Rattle.dw_moves.specs.Order.{Precedes, IsListOf, AreListed}
use Rattle.dw_moves.specs.inner.MemberLemmas.{mem_left, mem_right, mem_cases, mem_at}
use Rattle.dw_solve.specs.declared.stop.Stop.{Stop}
use Rattle.dw_solve.specs.Wins.{Lost}
use Rattle.dw_solve.specs.Lines.{Before}
use Rattle.dw_list.specs.LineStack.{BeginsAmong}
use Rattle.dw_list.specs.inner.Ways.{GoesOn, IsNext, left_after, AreWays, AreWaysAmong, Keeps, IsThrough}
use Rattle.dw_list.specs.inner.Ways.{AreWaysThrough}
use Rattle.dw_solve.specs.inner.ListLemmas.{none_listed, one_listed, listed_as, listed_then, listed_map}
use Rattle.dw_solve.specs.inner.ListLemmas.{ascending_parts}

pub goes_to : (g : Geometry) (a : Bool) (p : Placement) (n : ℕ) (m : Move) (l : List Move) → IsNext g a p n m
    → GoesOn g (not a) (play g p m) (left_after a n) l → GoesOn g a p n (m ∷ l)
goes_to g true p zero m l h k = absurd h
goes_to g true p (suc n) m [] h k = (h.0, h.1, k)
goes_to g true p (suc n) m (r ∷ l) h k = (h.0, h.1, k.0, k.1)
goes_to g false q n m l h k = (h, k)

pub goes_from : (g : Geometry) (a : Bool) (p : Placement) (n : ℕ) (m : Move) (l : List Move) → GoesOn g a p n (m ∷ l)
    → IsNext g a p n m × GoesOn g (not a) (play g p m) (left_after a n) l
goes_from g true p zero m l h = absurd h
goes_from g true p (suc n) m [] h = ((h.0, h.1), h.2)
goes_from g true p (suc n) m (r ∷ l) h = ((h.0, h.1), (h.2, h.3))
goes_from g false q n m l h = (h.0, h.1)

pub next_legal : (g : Geometry) (a : Bool) (p : Placement) (n : ℕ) (m : Move) → IsNext g a p n m → Legal g p m
next_legal g true p zero m h = absurd h
next_legal g true p (suc n) m h = h.0
next_legal g false q n m h = h

pub no_ways : (g : Geometry) (a : Bool) (p : Placement) (n : ℕ) → AreWaysAmong g a p n [] []
no_ways g a p n = none_listed (Before g p) (λ l. GoesOn g a p n l × BeginsAmong [] l) none where
  none : (l : List Move) → GoesOn g a p n l × BeginsAmong [] l → ⊥
  none [] h = h.1
  none (m ∷ l) h = h.1

-- the ways through one move after those through others
pub ways_then : (g : Geometry) (a : Bool) (p : Placement) (n : ℕ) (ms ns : List Move) (ls ks : List (List Move))
    → ((x y : Move) → Member x ms → Member y ns → Precedes g p x y) → AreWaysAmong g a p n ms ls
    → AreWaysAmong g a p n ns ks → AreWaysAmong g a p n (ms ++ ns) (ls ++ ks)
ways_then g a p n ms ns ls ks order =
    listed_then (Before g p) (λ l. GoesOn g a p n l × BeginsAmong ms l) (λ l. GoesOn g a p n l × BeginsAmong ns l)
    (λ l. GoesOn g a p n l × BeginsAmong (ms ++ ns) l) ls ks
    (λ x y h k. between x y h.1 k.1) (λ l h. (h.0, left l h.1)) (λ l h. (h.0, right l h.1)) (λ l h. either l h) where
      between : (x y : List Move) → BeginsAmong ms x → BeginsAmong ns y → Before g p x y
      between [] y h k = absurd h
      between (m ∷ x) [] h k = absurd k
      between (m ∷ x) (r ∷ y) h k = inl (order m r h k)

      left : (l : List Move) → BeginsAmong ms l → BeginsAmong (ms ++ ns) l
      left [] h = h
      left (m ∷ l) h = mem_left m ms ns h

      right : (l : List Move) → BeginsAmong ns l → BeginsAmong (ms ++ ns) l
      right [] h = h
      right (m ∷ l) h = mem_right m ms ns h

      either : (l : List Move) → GoesOn g a p n l × BeginsAmong (ms ++ ns) l → (GoesOn g a p n l × BeginsAmong ms l)
          ⊎ (GoesOn g a p n l × BeginsAmong ns l)
      either [] h = absurd h.1
      either (m ∷ l) h = elim (mem_cases m ms ns h.1) [ inl k ↦ inl (h.0, k) | inr k ↦ inr (h.0, k) ]

-- the ways through one move
pub ways_through : (g : Geometry) (a : Bool) (p : Placement) (n : ℕ) (m : Move) (ks : List (List Move))
    → IsNext g a p n m → AreWays g (not a) (play g p m) (left_after a n) ks
    → AreWaysAmong g a p n (m ∷ []) (map (λ l. m ∷ l) ks)
ways_through g a p n m ks next =
    listed_map (Before g (play g p m)) (Before g p) (GoesOn g (not a) (play g p m) (left_after a n))
    (λ l. GoesOn g a p n l × BeginsAmong (m ∷ []) l) (λ l. m ∷ l) ks
    (λ x y less. inr (refl, less)) (λ l h. (goes_to g a p n m l next h, inl refl)) back where
      back : (l : List Move) → GoesOn g a p n l × BeginsAmong (m ∷ []) l → (t : List Move)
          × GoesOn g (not a) (play g p m) (left_after a n) t × (l ≡ m ∷ t)
      back [] h = absurd h.1
      back (r ∷ l) h = elim h.1 [
        | inl e ↦ (l, (goes_from g a p n m l (subst (λ z. GoesOn g a p n (z ∷ l)) e h.0)).1, λ i. e i ∷ l)
        | inr none ↦ absurd none
      ]

pub ways_barred : (g : Geometry) (a : Bool) (p : Placement) (n : ℕ) (m : Move) → (IsNext g a p n m → ⊥)
    → AreWaysAmong g a p n (m ∷ []) []
ways_barred g a p n m barred = none_listed (Before g p) (λ l. GoesOn g a p n l × BeginsAmong (m ∷ []) l) none where
  none : (l : List Move) → GoesOn g a p n l × BeginsAmong (m ∷ []) l → ⊥
  none [] h = h.1
  none (r ∷ l) h = elim h.1 [
    | inl e ↦ barred (goes_from g a p n m l (subst (λ z. GoesOn g a p n (z ∷ l)) e h.0)).0
    | inr other ↦ other
  ]

-- those through all legal moves are all of the attacker's
pub ways_of_attacker : (g : Geometry) (p : Placement) (n : ℕ) (ms : List Move) (ls : List (List Move))
    → ((m : Move) → Legal g p m → Member m ms) → AreWaysAmong g true p n ms ls → AreWays g true p n ls
ways_of_attacker g p n ms ls all = listed_as (Before g p) (λ l. GoesOn g true p n l × BeginsAmong ms l)
    (GoesOn g true p n) ls (λ l h. h.0) (λ l h. (h, begins n l h)) where
      begins : (n : ℕ) (l : List Move) → GoesOn g true p n l → BeginsAmong ms l
      begins zero l h = absurd h
      begins (suc n) [] h = h
      begins (suc n) (m ∷ l) h = all m (next_legal g true p (suc n) m (goes_from g true p (suc n) m l h).0)

-- and all of the defender's, if it has a move
pub ways_of_defender : (g : Geometry) (q : Placement) (n : ℕ) (m : Move) (ms : List Move) (ls : List (List Move))
    → ((r : Move) → Legal g q r → Member r (m ∷ ms)) → Legal g q m → AreWaysAmong g false q n (m ∷ ms) ls
    → AreWays g false q n ls
ways_of_defender g q n m ms ls all legal = listed_as (Before g q) (λ l. GoesOn g false q n l × BeginsAmong (m ∷ ms) l)
    (GoesOn g false q n) ls (λ l h. h.0) (λ l h. (h, begins l h)) where
      begins : (l : List Move) → GoesOn g false q n l → BeginsAmong (m ∷ ms) l
      begins [] h = h m legal
      begins (r ∷ l) h = all r h.0

-- where the defender has no move, the line ends
pub ways_end : (g : Geometry) (q : Placement) (n : ℕ) → NoMove g q → AreWays g false q n ([] ∷ [])
ways_end g q n none = one_listed (Before g q) (GoesOn g false q n) [] none only where
  only : (l : List Move) → GoesOn g false q n l → l ≡ []
  only [] h = refl
  only (r ∷ l) h = absurd (none r h.0)

-- whether lines go on with a move of the attacker is whether the defender has lost after it
pub keeps_lost : (g : Geometry) (a : Bool) (q : Placement) (n : ℕ) → a ≡ true → (r : Result Bool Stop)
    → IfOk r (λ yes. IsTrue yes ↔ Lost g q n) → IfOk r (λ yes. IsTrue yes ↔ Keeps g a q n)
keeps_lost g true q n e r h = h
keeps_lost g false q n e r h = absurd (true≢false (sym e))

-- without a legal move there is nothing to list
pub none_ahead : (g : Geometry) (q : Placement) → NoMove g q → AreListed g q []
none_ahead g q none = record { in_order = none_listed (Precedes g q) (Legal g q) none; paths = λ l m. absurd m }

-- the attacker's last move keeps a win if the defender has no move after it
pub keeps_last : (g : Geometry) (a : Bool) (q : Placement) (n : ℕ) (b : Bool) → a ≡ true → n ≡ 0
    → IsTrue b ↔ ((m : Move) × Legal g q m) → IsTrue (not b) ↔ Keeps g a q n
keeps_last g true q zero true e z h = (
  (λ no. absurd (true≢false (sym no))),
  (λ lost. let m = h.0 refl in
      absurd (lost m.0 m.1)),
)
keeps_last g true q zero false e z h = ((λ _ m legal. absurd (true≢false (sym (h.1 (m, legal))))), (λ _. refl))
keeps_last g true q (suc n) b e z h = absurd (omega (arith, z))
keeps_last g false q n b e z h = absurd (true≢false (sym e))

-- a legal move that keeps a win is one with which lines go on
pub next_to : (g : Geometry) (a : Bool) (p : Placement) (n : ℕ) (m : Move) → (IsTrue a → 1 ≤ n) → Legal g p m
    → Keeps g a (play g p m) (left_after a n) → IsNext g a p n m
next_to g true p zero m some legal keeps = let one : 1 ≤ 0 = some refl in absurd (omega arith)
next_to g true p (suc n) m some legal keeps = (legal, keeps)
next_to g false q n m some legal keeps = legal

pub next_keeps : (g : Geometry) (a : Bool) (p : Placement) (n : ℕ) (m : Move) → IsNext g a p n m
    → Keeps g a (play g p m) (left_after a n)
next_keeps g true p zero m h = absurd h
next_keeps g true p (suc n) m h = h.1
next_keeps g false q n m h = tt

-- the ways through a legal move
pub through_among : (g : Geometry) (a : Bool) (p : Placement) (n : ℕ) (m : Move) (ls : List (List Move))
    → (IsTrue a → 1 ≤ n) → Legal g p m → AreWaysThrough g a p (left_after a n) m ls → AreWaysAmong g a p n (m ∷ []) ls
through_among g a p n m ls some legal =
    listed_as (Before g p) (IsThrough g a p (left_after a n) m) (λ l. GoesOn g a p n l × BeginsAmong (m ∷ []) l) ls to
    back where
      to : (l : List Move) → IsThrough g a p (left_after a n) m l → GoesOn g a p n l × BeginsAmong (m ∷ []) l
      to l h = subst (λ z. GoesOn g a p n z × BeginsAmong (m ∷ []) z) (sym h.1)
          (goes_to g a p n m h.0 (next_to g a p n m some legal h.2) h.3, inl refl)

      back : (l : List Move) → GoesOn g a p n l × BeginsAmong (m ∷ []) l → IsThrough g a p (left_after a n) m l
      back [] h = absurd h.1
      back (r ∷ l) h = elim h.1 [
        | inl e ↦
            let k = goes_from g a p n m l (subst (λ z. GoesOn g a p n (z ∷ l)) e h.0) in
            (l, (λ i. e i ∷ l), next_keeps g a p n m k.0, k.1)
        | inr other ↦ absurd other
      ]

-- the ways through a move that keeps a win, and through one that doesn't
pub through_kept : (g : Geometry) (a : Bool) (p : Placement) (n : ℕ) (m : Move) (ks : List (List Move))
    → Keeps g a (play g p m) n → AreWays g (not a) (play g p m) n ks → AreWaysThrough g a p n m (map (λ l. m ∷ l) ks)
through_kept g a p n m ks keeps =
    listed_map (Before g (play g p m)) (Before g p) (GoesOn g (not a) (play g p m) n) (IsThrough g a p n m) (λ l. m ∷ l)
    ks
    (λ x y less. inr (refl, less)) (λ l h. (l, refl, keeps, h)) (λ l h. (h.0, h.3, h.1))

pub through_barred : (g : Geometry) (a : Bool) (p : Placement) (n : ℕ) (m : Move) → (Keeps g a (play g p m) n → ⊥)
    → AreWaysThrough g a p n m []
through_barred g a p n m barred = none_listed (Before g p) (IsThrough g a p n m) (λ l h. barred h.2)

-- the ways through one more of the legal moves in order
pub ways_more : (g : Geometry) (a : Bool) (p : Placement) (n : ℕ) (ms ns : List Move) (m : Move)
    (ls ks : List (List Move)) → (IsTrue a → 1 ≤ n) → IsListOf (Precedes g p) (Legal g p) (ms ++ m ∷ ns)
    → AreWaysAmong g a p n ms ls → AreWaysThrough g a p (left_after a n) m ks
    → AreWaysAmong g a p n (ms ++ m ∷ []) (ls ++ ks)
ways_more g a p n ms ns m ls ks some all before here =
    ways_then g a p n ms (m ∷ []) ls ks
    (λ x y h k. elim k [
      | inl e ↦ subst (Precedes g p x) (sym e)
          ((ascending_parts (Precedes g p) ms (m ∷ ns) all.ascending).1 x m h (inl refl))
      | inr other ↦ absurd other
    ])
    before (through_among g a p n m ks some ((all.exactly m).0 (mem_at m ms ns)) here)

-- all ways are those through all legal moves, or the end of the line
pub ways_all : (g : Geometry) (a : Bool) (p : Placement) (n : ℕ) (ms : List Move) (ls : List (List Move))
    → IsListOf (Precedes g p) (Legal g p) ms → (a ≡ true) ⊎ (0 < length ms) → AreWaysAmong g a p n ms ls
    → AreWays g a p n ls
ways_all g true p n ms ls all some h = ways_of_attacker g p n ms ls (λ m legal. (all.exactly m).1 legal) h
ways_all g false q n [] ls all (inl e) h = absurd (true≢false (sym e))
ways_all g false q n [] ls all (inr some) h = absurd (omega arith)
ways_all g false q n (m ∷ ms) ls all some h = ways_of_defender g q n m ms ls (λ r legal. (all.exactly r).1 legal)
    ((all.exactly m).0 (inl refl)) h

pub ways_none : (g : Geometry) (q : Placement) (n : ℕ) (ms : List Move) → IsListOf (Precedes g q) (Legal g q) ms
    → length ms ≡ 0 → AreWays g false q n ([] ∷ [])
ways_none g q n [] all e = ways_end g q n (λ r legal. (all.exactly r).1 legal)
ways_none g q n (m ∷ ms) all e = absurd (omega arith)
