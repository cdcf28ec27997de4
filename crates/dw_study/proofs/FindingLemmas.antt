-- The number of moves at which a position is judged is there, and is one.
use Rattle.std.proofs.Common.{◌≡◌, ℕ, ◌<◌, ◌≤◌, ◌∙◌, zero, suc, refl, sym, subst, arith, ◌⊎◌, inl, inr, Some, None}
use Rattle.std.proofs.Common.{List, Bool, true, false}
use Rattle.std.specs.Prelude.{if◌then◌else◌}
use Rattle.std.proofs.lemmas.Bool.{cases_lt}
use Rattle.dw_board.specs.Geometry.{Geometry, IsBoard}
use Rattle.dw_board.specs.Placement.{Placement}
use Rattle.dw_moves.specs.Moves.{Move}
use Rattle.dw_solve.specs.Laws.{WinsAreDecided, WinsStay}
use Rattle.dw_solve.specs.Solving.{IsLeast}
use Rattle.dw_solve.specs.Wins.{Win}
use Rattle.dw_verdict.specs.Verdict.{Verdict}
use Rattle.dw_verdict.specs.VerdictLaws.{OneVerdict, TriesAreListed}
use Rattle.dw_study.specs.Finding.{judged, IsJudgedAt, IsNumberFor, IsFinding}

-- no win within any number up to n
abbrev NoneUpTo : Geometry → Placement → ℕ → Type 0
NoneUpTo g p n = (j : ℕ) → j ≤ n → Win g p j → ⊥

none_at_zero : (g : Geometry) (p : Placement) → NoneUpTo g p 0
none_at_zero g p zero few win = win
none_at_zero g p (suc j) few win = absurd (omega (arith, few))

none_one_more : (g : Geometry) (p : Placement) (n : ℕ) → NoneUpTo g p n → (Win g p (suc n) → ⊥) → NoneUpTo g p (suc n)
none_one_more g p n none here j few win = elim (cases_lt n j) [
  | inl above ↦ let same : j ≡ suc n = omega (arith, few, above) in here (subst (λ z. Win g p z) same win)
  | inr below ↦ none j below win
]

found_wider : (g : Geometry) (p : Placement) (n k : ℕ) → IsLeast g p n (Some k) → IsLeast g p (suc n) (Some k)
found_wider g p n k found = (found.0, omega (arith, found.1), found.2, found.3)

found_here : (g : Geometry) (p : Placement) (n : ℕ) → NoneUpTo g p n → Win g p (suc n)
    → IsLeast g p (suc n) (Some (suc n))
found_here g p n none win = (omega arith, omega arith, win, λ j less. none j (omega (arith, less)))

-- the least number up to n is there, or there is no win up to it
least_or_none : WinsAreDecided → (g : Geometry) (p : Placement) (n : ℕ)
    → ((k : ℕ) × IsLeast g p n (Some k)) ⊎ NoneUpTo g p n
least_or_none decided g p zero = inr (none_at_zero g p)
least_or_none decided g p (suc n) = elim (least_or_none decided g p n) [
  | inl found ↦ inl (found.0, found_wider g p n found.0 found.1)
  | inr none ↦ elim (decided g p (suc n)) [
    | inl win ↦ inl (suc n, found_here g p n none win)
    | inr lost ↦ inr (none_one_more g p n none lost)
  ]
]

judged_some : WinsAreDecided → (g : Geometry) (p : Placement) (most : ℕ) → (k : ℕ) × IsJudgedAt g p most k
judged_some decided g p most = elim (least_or_none decided g p most) [
  | inl found ↦ (found.0, inl found.1)
  | inr none ↦ (most, inr (none most (omega arith), refl))
]

-- the lesser of two numbers is no less than the other if that is the least
not_less : (g : Geometry) (p : Placement) (most k j : ℕ) → IsLeast g p most (Some k) → IsLeast g p most (Some j) → k ≤ j
not_less g p most k j found other = elim (cases_lt j k) [
  | inl less ↦ absurd (found.3 j less other.2)
  | inr more ↦ more
]

-- if there is no win within the most moves, there is none within fewer
never : WinsStay → (g : Geometry) (p : Placement) (most k : ℕ) → IsLeast g p most (Some k) → IsLeast g p most None → ⊥
never stay g p most k found none = none (stay.win g p k most found.1 found.2)

judged_only : WinsStay → (g : Geometry) (p : Placement) (most k j : ℕ) → IsJudgedAt g p most k → IsJudgedAt g p most j
    → k ≡ j
judged_only stay g p most k j (inl found) (inl other) =
    let low = not_less g p most k j found other in
    let high = not_less g p most j k other found in
    omega (arith, low, high)
judged_only stay g p most k j (inl found) (inr none) = absurd (never stay g p most k found none.0)
judged_only stay g p most k j (inr none) (inl other) = absurd (never stay g p most j other none.0)
judged_only stay g p most k j (inr none) (inr same) = omega (arith, none.1, same.1)

number_some : WinsAreDecided → (g : Geometry) (p : Placement) (is_least : Bool) (moves : ℕ)
    → (k : ℕ) × IsNumberFor g p is_least moves k
number_some decided g p true moves = judged_some decided g p moves
number_some decided g p false moves = (moves, refl)

number_only : WinsStay → (g : Geometry) (p : Placement) (is_least : Bool) (moves k j : ℕ)
    → IsNumberFor g p is_least moves k → IsNumberFor g p is_least moves j → k ≡ j
number_only stay g p true moves k j one other = judged_only stay g p moves k j one other
number_only stay g p false moves k j one other = one ∙ sym other

-- the number of moves, once the least number is known
pub number_for : (g : Geometry) (p : Placement) (is_least : Bool) (moves k n : ℕ) → IsJudgedAt g p moves k
    → n ≡ (if is_least then k else moves) → IsNumberFor g p is_least moves n
number_for g p true moves k n at same = subst (λ z. IsJudgedAt g p moves z) (sym same) at
number_for g p false moves k n at same = same

-- each position is judged in one way
pub finding_some : WinsAreDecided → OneVerdict → TriesAreListed → (g : Geometry) → IsBoard g → (p : Placement)
    (is_least : Bool) (moves : ℕ)
    → (k : ℕ) × (v : Verdict) × (tries : List (Move × Move)) × IsFinding g p is_least moves (judged k v tries)
finding_some decided verdicts listed g board p is_least moves =
    let at = number_some decided g p is_least moves in
    let verdict = verdicts.some g board p at.0 in
    let tries = listed.some g board p at.0 in
    (at.0, verdict.0, tries.0, (at.1, verdict.1, tries.1))

same_finding : (k j : ℕ) (v w : Verdict) (tries others : List (Move × Move)) → k ≡ j → v ≡ w → tries ≡ others
    → judged k v tries ≡ judged j w others
same_finding k j v w tries others a b c = cc

-- and only in one
pub finding_only : WinsStay → OneVerdict → TriesAreListed → (g : Geometry) → IsBoard g → (p : Placement)
    (is_least : Bool) (moves k j : ℕ) (v w : Verdict) (tries others : List (Move × Move))
    → IsFinding g p is_least moves (judged k v tries) → IsFinding g p is_least moves (judged j w others)
    → judged k v tries ≡ judged j w others
finding_only stay verdicts listed g board p is_least moves k j v w tries others one other =
    let same = number_only stay g p is_least moves k j one.0 other.0 in
    let at = subst (λ z. IsFinding g p is_least moves (judged z w others)) (sym same) other in
    same_finding k j v w tries others same (verdicts.only g board p k v w one.1 at.1)
    (listed.only g board p k tries others one.2 at.2)

below_least : WinsStay → (g : Geometry) (p : Placement) (most k j : ℕ) → (j < most) → (Win g p j → ⊥)
    → IsJudgedAt g p most k → j < k
below_least stay g p most k j less none (inl found) = elim (cases_lt j k) [
  | inl below ↦ below
  | inr above ↦ absurd (none (stay.win g p k j above found.2))
]
below_least stay g p most k j less none (inr at) = omega (arith, less, at.1)

-- an undecided position is judged at a greater number
pub undecided_below : WinsStay → (g : Geometry) (p : Placement) (is_least : Bool) (moves k j : ℕ) → (j < moves)
    → (Win g p j → ⊥) → IsNumberFor g p is_least moves k → j < k
undecided_below stay g p true moves k j less none at = below_least stay g p moves k j less none at
undecided_below stay g p false moves k j less none at = omega (arith, less, at)
