-- Each list of moves is a line or has exactly one place.
use Rattle.std.proofs.Common.{◌≡◌, ℕ, ◌+◌, ◌<◌, zero, suc, true, List, length, take, subst, ◌⊎◌, inl, inr, arith}
use Rattle.std.proofs.lemmas.Bool.{cases_order, cases_lt}
use Rattle.dw_board.specs.Geometry.{Geometry}
use Rattle.dw_board.specs.Placement.{Placement}
use Rattle.dw_moves.specs.Moves.{Move}
use Rattle.dw_moves.specs.Laws.{MovesListed}
use Rattle.dw_solve.specs.Laws.{WinsAreDecided}
use Rattle.dw_solve.specs.Lines.{Line}
use Rattle.dw_list.specs.Places.{Begins, IsPlace}
use Rattle.dw_list.proofs.FollowLemmas.{LeavesAt, place_of, leaves_at}
use Rattle.dw_list.proofs.DecidingLemmas.{goes_on_or_not, begin_or_not}

-- the place, looked for from j + 1 on, with so many moves left
find_place : MovesListed → WinsAreDecided → (g : Geometry) (p : Placement) (n : ℕ) (l : List Move) → (Line g p n l → ⊥)
    → (left j : ℕ) → left + j ≡ length l → ((i : ℕ) → 0 < i → i < j + 1 → Begins g p n (take i l))
    → (k : ℕ) × LeavesAt g p n l k
find_place listed decided g p n l none zero j e so_far = (
  j + 1,
  record {
    no_line = none;
    first = omega arith;
    last = omega arith;
    earlier = so_far;
    leaves =
        λ h. absurd (omega arith);
  },
)
find_place listed decided g p n l none (suc left) j e so_far =
    elim (begin_or_not listed decided g true p n (take (j + 1) l) tt) [
      | inl h ↦ find_place listed decided g p n l none left (j + 1) (omega arith)
          (λ i low high. elim (cases_lt i (j + 1)) [
            | inl below ↦ so_far i low below
            | inr k ↦ let same : j + 1 ≡ i = omega arith in subst (λ z. Begins g p n (take z l)) same h
          ])
      | inr h ↦ (
        j + 1,
        record {
          no_line = none;
          first = omega arith;
          last = omega arith;
          earlier = so_far;
          leaves =
              λ _. h;
        },
      )
    ]

pub line_or_place : MovesListed → WinsAreDecided → (g : Geometry) (p : Placement) (n : ℕ) (l : List Move) → Line g p n l
    ⊎ ((k : ℕ) × IsPlace g p n l k)
line_or_place listed decided g p n l = elim (goes_on_or_not listed decided g true p n l) [
  | inl h ↦ inl h
  | inr none ↦
      let found = find_place listed decided g p n l none (length l) 0 (omega arith) (λ i low high. absurd (omega arith))
      in inr (found.0, place_of g p n l found.0 found.1)
]

pub place_both : (g : Geometry) (p : Placement) (n : ℕ) (l : List Move) (place : ℕ) → Line g p n l
    → IsPlace g p n l place → ⊥
place_both g p n l place line h = (leaves_at g p n l place h).no_line line

pub place_only : (g : Geometry) (p : Placement) (n : ℕ) (l : List Move) (j k : ℕ) → IsPlace g p n l j
    → IsPlace g p n l k → j ≡ k
place_only g p n l j k one other =
    let h = leaves_at g p n l j one in
    let i = leaves_at g p n l k other in
    elim (cases_order j k) [
      | inl e ↦ e
      | inr (inl less) ↦ absurd (h.leaves (omega (arith, i.last)) (i.earlier j (omega (arith, h.first)) less))
      | inr (inr more) ↦ absurd (i.leaves (omega (arith, h.last)) (h.earlier k (omega (arith, i.first)) more))
    ]
