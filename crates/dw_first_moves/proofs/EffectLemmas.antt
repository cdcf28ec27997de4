-- What a first move does.
use Rattle.std.proofs.Common.{◌≡◌, ℕ, zero, suc, ◌+◌, ◌%◌, ◌<◌, ◌≤◌, List, [], ◌∷◌, ◌++◌, length, map, take, get_or}
use Rattle.std.proofs.Common.{refl, sym, ap, subst, ◌∙◌, inl, inr, arith, true, false, Bool, IsTrue, ◌↔◌, if◌then◌else◌}
use Rattle.std.specs.Prelude.{◌==◌}
use Rattle.std.proofs.Common.{Vec, Global}
use Rattle.std.specs.Vec.{vec_len}
use Rattle.std.proofs.lemmas.Bool.{cases_Bool, eqb-true, eqb-false}
use Rattle.std.proofs.lemmas.List.{take_more, map_push}
use Rattle.dw_board.specs.Geometry.{Geometry}
use Rattle.dw_board.specs.Placement.{Placement}
use Rattle.dw_board.specs.Lists.{Member}
use Rattle.dw_moves.specs.Moves.{Move, Legal, play}
use Rattle.dw_moves.specs.Order.{Precedes, IsListOf}
use Rattle.dw_solve.specs.Laws.{WinsAreDecided}
use Rattle.dw_solve.specs.Searching.{IsCounted}
use Rattle.dw_solve.specs.Wins.{Win, Lost}
use Rattle.dw_solve.specs.inner.ListLemmas.{listed_as}
use Rattle.dw_verdict.specs.Verdict.{IsWinning, Refutes}
use Rattle.dw_verdict.specs.inner.GatheredLemmas.{GatheredTo, to_all}
use Rattle.dw_parts.specs.Parts.{part_from}
use Rattle.dw_first_moves.specs.FirstMoves.{Effect, HasEffect, AreEffects}

-- ---- a win within one move more than is left after it
pub wins_with : (g : Geometry) (p : Placement) (n : ℕ) (m : Move) → Legal g p m → Lost g (play g p m) n
    → IsWinning g p (n + 1) m
wins_with g p n m legal lost =
    let e : n + 1 ≡ suc n = omega arith in subst (λ z. IsWinning g p z m) (sym e) (legal, lost)

pub lost_of : (g : Geometry) (p : Placement) (n : ℕ) (m : Move) → IsWinning g p (n + 1) m → Lost g (play g p m) n
lost_of g p n m wins = let e : n + 1 ≡ suc n = omega arith in (subst (λ z. IsWinning g p z m) e wins).1

pub none_first : (g : Geometry) (p : Placement) (m : Move) (j : ℕ) → j < 1 → IsWinning g p j m → ⊥
none_first g p m zero low wins = wins
none_first g p m (suc j) low wins = absurd (omega (arith, low))

pub no_win : (g : Geometry) (q after : Placement) (n : ℕ) (r : Move) (won : Bool) → after ≡ play g q r
    → (IsTrue won ↔ Win g after n) → won ≡ false → Win g (play g q r) n → ⊥
no_win g q after n r won there tells lost w =
    let holds = tells.1 (subst (λ z. Win g z n) (sym there) w) in cc

pub a_win : (g : Geometry) (q after : Placement) (n : ℕ) (r : Move) (won : Bool) → after ≡ play g q r
    → (IsTrue won ↔ Win g after n) → won ≡ true → Win g (play g q r) n
a_win g q after n r won there tells holds = subst (λ z. Win g z n) there (tells.0 holds)

-- all replies that refute, of all legal ones
pub refuting : {V : Type 0} (step : V → Move) (g : Geometry) (q : Placement) (n : ℕ) (xs : List V) (i : ℕ)
    (ys : List Move) → length xs ≤ i → IsListOf (Precedes g q) (Legal g q) (map step xs)
    → GatheredTo step (Precedes g q) (λ m. m) (λ m. Win g (play g q m) n → ⊥) xs i ys
    → IsListOf (Precedes g q) (Refutes g q n) ys
refuting step g q n xs i ys end all h =
    listed_as (Precedes g q) (λ m. Legal g q m × (Win g (play g q m) n → ⊥)) (Refutes g q n) ys (λ m f. f) (λ m f. f)
    (to_all step (Precedes g q) (λ m. m) (λ m. Win g (play g q m) n → ⊥) (Legal g q) xs i ys end all h)

-- if no reply refutes, the position is lost
pub none_refutes : WinsAreDecided → (g : Geometry) (q : Placement) (n : ℕ) (replies : List Move)
    → IsListOf (Precedes g q) (Refutes g q n) replies → length replies ≡ 0 → Lost g q n
none_refutes law g q n (s ∷ replies) all none r legal = absurd (omega (arith, none))
none_refutes law g q n [] all none r legal = elim (law g (play g q r) n) [
  | inl win ↦ win
  | inr fails ↦ absurd ((all.exactly r).1 (legal, fails))
]

-- if a reply refutes, it is not
pub some_refutes : (g : Geometry) (q : Placement) (n : ℕ) (replies : List Move)
    → IsListOf (Precedes g q) (Refutes g q n) replies → 0 < length replies → Lost g q n → ⊥
some_refutes g q n [] all some lost = omega (arith, some)
some_refutes g q n (s ∷ replies) all some lost =
    let first = (all.exactly s).0 (inl refl) in first.1 (lost s first.0)

-- ---- moves one after another
effects_more : (g : Geometry) (p : Placement) (n : ℕ) (moves : List Move) (m : Move) (done : List (Move × Effect))
    (one : Move × Effect) → one.0 ≡ m → HasEffect g p n m one.1 → AreEffects g p n moves done
    → AreEffects g p n (moves ++ m ∷ []) (done ++ one ∷ [])
effects_more g p n [] m done one is here none =
    (one.1, [], here, refl, ap (λ z. z ++ one ∷ []) none ∙ ap (λ z. (z, one.1) ∷ []) is)
effects_more g p n (first ∷ moves) m done one is here h =
    (h.0, h.1 ++ one ∷ [], h.2, effects_more g p n moves m h.1 one is here h.3, ap (λ z. z ++ one ∷ []) h.4)

pub effects_next : {V : Type 0} (told : V → Move × Effect) (g : Geometry) (p : Placement) (n : ℕ) (moves : List Move)
    (i : ℕ) (m : Move) (done now : List V) (one : V) → i < length moves → m ≡ get_or moves i m
    → AreEffects g p n (take i moves) (map told done) → (told one).0 ≡ m → HasEffect g p n m (told one).1
    → now ≡ done ++ one ∷ [] → AreEffects g p n (take (i + 1) moves) (map told now)
effects_next told g p n moves i m done now one low at before is here pushed =
    subst (λ z. AreEffects g p n z (map told now))
    (sym (take_more moves i m low ∙ ap (λ z. take i moves ++ z ∷ []) (sym at)))
    (subst (AreEffects g p n (take i moves ++ m ∷ [])) (sym (ap (map told) pushed ∙ map_push told done one))
    (effects_more g p n (take i moves) m (map told done) (told one) is here before))

pub in_part : {X : Type 0} (i m place : ℕ) (xs : List X) (x : X) → Member x (part_from place i m xs) → Member x xs
in_part i m place [] x here = here
in_part i m place (y ∷ xs) x here = elim (cases_Bool (place % m == i % m)) [
  | inl yes' ↦ elim (subst (λ b. Member x (if b then y ∷ part_from (place + 1) i m xs
      else part_from (place + 1) i m xs)) yes' here) [
        | inl first ↦ inl first
        | inr later ↦ inr (in_part i m (place + 1) xs x later)
      ]
  | inr no' ↦ inr (in_part i m (place + 1) xs x (subst (λ b. Member x (if b then y ∷ part_from (place + 1) i m xs
      else part_from (place + 1) i m xs)) no' here))
]

-- ---- a list that is empty, and one that is not
pub none_there : {A : Type 0} (v : Vec A Global) (b : Bool) → b ≡ (vec_len v == 0) → b ≡ true → length v.items ≡ 0
none_there v b is e =
    let none : vec_len v ≡ 0 = eqb-true (vec_len v) 0 (sym is ∙ e) in omega (arith, v.ok.0, none)

pub some_there : {A : Type 0} (v : Vec A Global) (b : Bool) → b ≡ (vec_len v == 0) → b ≡ false → 0 < length v.items
some_there v b is e =
    let no = eqb-false (vec_len v) 0 (sym is ∙ e) in omega (arith, v.ok.0, no)
