-- Steps by rows and columns: for each board a table.
use Rattle.std.proofs.Common.{◌≡◌, ℕ, suc, zero, ◌+◌, ◌-◌, ◌*◌, ◌/◌, ◌%◌, ◌≤◌, ◌<◌, Bool, true, false, ◌&&◌, eqb, ltb}
use Rattle.std.proofs.Common.{Option, Some, None, refl, sym, ap, ◌∙◌, subst, arith, nat_lt}
use Rattle.std.specs.Ordering.{nat_cmp, is_le}
use Rattle.std.proofs.lemmas.Bool.{agree_below, agree_below_at, eqb-true, and_parts, ltb-true, lt-ltb}
use Rattle.std.proofs.lemmas.Bool.Decides.{nat_tests}
use Rattle.dw_board.specs.declared.board.Dir.{Dir}
use Rattle.dw_board.specs.declared.board.Dir.TheVariants.{UpLeft, UpRight, DownLeft, DownRight}
use Rattle.dw_board.specs.Geometry.{Geometry, IsBoard, squares, step, OnBoard, row, column, is_down, is_right, moved}
use Rattle.dw_board.specs.Geometry.{and_then}
use Rattle.dw_board.specs.inner.GeometryLemmas.{at_boards, step-OnBoard, shifts_are_steps}
use Rattle.dw_board.specs.Laws.{IsNext, StepsAreDiagonal, StepsStay, PlacesDiffer, ShiftsStep}

abbrev of : ℕ → ℕ → Geometry
of r p = record { rows = r; per_row = p; side = 1 }

abbrev all_pass : (ℕ → Bool) → ℕ → Type 0
all_pass f n = agree_below f (λ _. true) n ≡ true

abbrev is_next : Bool → ℕ → ℕ → Bool
is_next true x y = eqb y (x + 1)
is_next false x y = eqb x (y + 1)

is_next-true : (b : Bool) (x y : ℕ) → is_next b x y ≡ true → IsNext b x y
is_next-true true x y e = eqb-true _ _ e
is_next-true false x y e = eqb-true _ _ e

-- a board has all squares of a row
pub row_fits : (g : Geometry) → IsBoard g → g.per_row ≤ squares g
row_fits g b = at_boards (λ r p. p ≤ r * p) (omega arith) (omega arith) (omega arith) (omega arith) g.rows g.per_row
    b.even b.low b.high

-- whether a square is in the last row, by the first square there
pub in_last_row : (first s all p : ℕ) → first + p ≡ all + 1 → is_le (nat_cmp first s) ≡ nat_lt all (s + p)
in_last_row first s all p e = grind (arith, nat_tests)

-- where a step leads
abbrev leads : Geometry → Dir → ℕ → Option ℕ → Bool
leads g d s None = true
leads g d s (Some t) = is_next (is_down d) (row g s) (row g t) && is_next (is_right d) (column g s) (column g t)

leads_table : (r p : ℕ) → r ≡ 2 * p → 2 ≤ p → p ≤ 5 → (d : Dir)
    → all_pass (λ k. leads (of r p) d (suc k) (step (of r p) (suc k) d)) (r * p)
leads_table = at_boards (λ r p. (d : Dir) → all_pass (λ k. leads (of r p) d (suc k) (step (of r p) (suc k) d)) (r * p))
    (elim [ UpLeft ↦ refl | UpRight ↦ refl | DownLeft ↦ refl | DownRight ↦ refl ])
    (elim [ UpLeft ↦ refl | UpRight ↦ refl | DownLeft ↦ refl | DownRight ↦ refl ])
    (elim [ UpLeft ↦ refl | UpRight ↦ refl | DownLeft ↦ refl | DownRight ↦ refl ])
    (elim [ UpLeft ↦ refl | UpRight ↦ refl | DownLeft ↦ refl | DownRight ↦ refl ])

-- a square's row and column lie on the board, and tell it
abbrev placed : Geometry → ℕ → Bool
placed g s = ltb (row g s) g.rows && (ltb (column g s) (2 * g.per_row) && eqb (row g s * g.per_row + column g s / 2 + 1)
    s)

placed_table : (r p : ℕ) → r ≡ 2 * p → 2 ≤ p → p ≤ 5 → all_pass (λ k. placed (of r p) (suc k)) (r * p)
placed_table = at_boards (λ r p. all_pass (λ k. placed (of r p) (suc k)) (r * p)) refl refl refl refl

record IsPlaced (g : Geometry) (s : ℕ) : Type 0 where
  pub row_low : row g s < g.rows
  pub column_low : column g s < 2 * g.per_row
  pub back : row g s * g.per_row + column g s / 2 + 1 ≡ s

is_placed : (g : Geometry) → IsBoard g → (s : ℕ) → OnBoard g s → IsPlaced g s
is_placed g b zero on = absurd (omega arith)
is_placed g b (suc k) on =
    let a = and_parts _ _ (agree_below_at (λ k. placed g (suc k)) (λ _. true) (squares g) k
    (placed_table g.rows g.per_row b.even b.low b.high) (omega arith)) in
    let c = and_parts _ _ a.1 in
    record { row_low = ltb-true _ _ a.0; column_low = ltb-true _ _ c.0; back = eqb-true _ _ c.1 }

moved-next : (b : Bool) (n x y : ℕ) → IsNext b x y → y < n → moved b n x ≡ Some y
moved-next true n x y e low = let t : ltb (x + 1) n ≡ true = lt-ltb (x + 1) n (omega arith) in rw t (ap Some (sym e))
moved-next false n x y e low = let t : ltb 0 x ≡ true = lt-ltb 0 x (omega arith) in let k : x - 1
    ≡ y = omega arith in rw t (ap Some k)

-- a step by the rows and columns of both squares
step-by : (g : Geometry) (s t : ℕ) (d : Dir) → moved (is_down d) g.rows (row g s) ≡ Some (row g t)
    → moved (is_right d) (2 * g.per_row) (column g s) ≡ Some (column g t)
    → row g t * g.per_row + column g t / 2 + 1 ≡ t → step g s d ≡ Some t
step-by g s t d e f back =
    ap (λ o. and_then o (λ r. and_then (moved (is_right d) (2 * g.per_row) (column g s))
    (λ c. Some (r * g.per_row + c / 2 + 1)))) e
    ∙ (ap (λ o. and_then o (λ c. Some (row g t * g.per_row + c / 2 + 1))) f ∙ ap Some back)

-- the next row, by numbers that are those of the board
pub same_row : (g : Geometry) (s rows p : ℕ) (d : Dir) (down : Bool) (found next : Option ℕ) → down ≡ is_down d
    → rows ≡ g.rows → p ≡ g.per_row → found ≡ next → found ≡ moved down rows ((s - 1) / p)
    → next ≡ moved (is_down d) g.rows (row g s)
same_row g s rows p d down found next way all few was is =
    sym was ∙ (is ∙ (ap (λ b. moved b rows ((s - 1) / p)) way ∙ (ap (λ n. moved (is_down d) n ((s - 1) / p)) all
    ∙ ap (λ n. moved (is_down d) g.rows ((s - 1) / n)) few)))

-- the next column
pub same_column : (g : Geometry) (s p q u : ℕ) (d : Dir) (right : Bool) (found next : Option ℕ) → right ≡ is_right d
    → p ≡ g.per_row → q ≡ g.per_row → u ≡ g.per_row → found ≡ next
    → found ≡ moved right (2 * u) (2 * ((s - 1) % q) + (1 - (s - 1) / p % 2))
    → next ≡ moved (is_right d) (2 * g.per_row) (column g s)
same_column g s p q u d right found next way few as_few all was is =
    sym was ∙ (is ∙ (ap (λ b. moved b (2 * u) (2 * ((s - 1) % q) + (1 - (s - 1) / p % 2))) way
    ∙ (ap (λ n. moved (is_right d) (2 * n) (2 * ((s - 1) % q) + (1 - (s - 1) / p % 2))) all
    ∙ (ap (λ n. moved (is_right d) (2 * g.per_row) (2 * ((s - 1) % n) + (1 - (s - 1) / p % 2))) as_few
    ∙ ap (λ n. moved (is_right d) (2 * g.per_row) (2 * ((s - 1) % g.per_row) + (1 - (s - 1) / n % 2))) few))))

-- no step past the last row
pub past_rows : (g : Geometry) (s : ℕ) (d : Dir) → None ≡ moved (is_down d) g.rows (row g s) → None ≡ step g s d
past_rows g s d e =
    ap (λ o. and_then o (λ r. and_then (moved (is_right d) (2 * g.per_row) (column g s))
    (λ c. Some (r * g.per_row + c / 2 + 1)))) e

-- a step to the next row and the next column
pub next_of_both : (g : Geometry) (s r c p t : ℕ) (d : Dir) → Some r ≡ moved (is_down d) g.rows (row g s)
    → Some c ≡ moved (is_right d) (2 * g.per_row) (column g s) → p ≡ g.per_row → t ≡ r * p + c / 2 + 1
    → Some t ≡ step g s d
next_of_both g s r c p t d e f few is =
    ap Some (is ∙ ap (λ n. r * n + c / 2 + 1) few)
    ∙ (ap (λ o. and_then o (λ c. Some (r * g.per_row + c / 2 + 1))) f
    ∙ ap (λ o. and_then o (λ r. and_then (moved (is_right d) (2 * g.per_row) (column g s))
    (λ c. Some (r * g.per_row + c / 2 + 1)))) e)

step-leads : (g : Geometry) → IsBoard g → (s t : ℕ) (d : Dir) → OnBoard g s → step g s d ≡ Some t → leads g d s (Some t)
    ≡ true
step-leads g b zero t d on e = absurd (omega arith)
step-leads g b (suc k) t d on e =
    subst (λ o. leads g d (suc k) o ≡ true) e (agree_below_at (λ k. leads g d (suc k) (step g (suc k) d)) (λ _. true)
    (squares g) k (leads_table g.rows g.per_row b.even b.low b.high d) (omega arith))

pub steps_are_diagonal : StepsAreDiagonal
steps_are_diagonal g b s t d on to = (
  (λ e. let h = and_parts _ _ (step-leads g b s t d on e) in (is_next-true _ _ _ h.0, is_next-true _ _ _ h.1)),
  (λ h. let p = is_placed g b t to in step-by g s t d (moved-next (is_down d) g.rows _ _ h.0 p.row_low)
      (moved-next (is_right d) (2 * g.per_row) _ _ h.1 p.column_low) p.back),
)

pub steps_stay : StepsStay
steps_stay g b s t d on e = step-OnBoard g b s t d on e

pub places_differ : PlacesDiffer
places_differ g b s t on to e f = sym (is_placed g b s on).back ∙ (ap (λ r. r * g.per_row + column g s / 2 + 1) e
    ∙ (ap (λ c. row g t * g.per_row + c / 2 + 1) f ∙ (is_placed g b t to).back))

pub shifts_step : ShiftsStep
shifts_step g b = shifts_are_steps g b
