-- A step back leads to where a step began.
use Rattle.std.proofs.Common.{◌≡◌, ℕ, ◌+◌, ◌-◌, ◌*◌, ◌/◌, ◌%◌, ◌<◌, ap, ◌∙◌, arith, Bool, true, false, not, Option}
use Rattle.std.proofs.Common.{Some}
use Rattle.std.specs.Prelude.{nat_lt}
use Rattle.std.proofs.lemmas.Bool.{lt-ltb}
use Rattle.std.proofs.Math.Nat.{div-add-mod}
use Rattle.dw_board.specs.declared.board.Dir.{Dir}
use Rattle.dw_board.specs.declared.board.Dir.TheVariants.{UpLeft, UpRight, DownLeft, DownRight}
use Rattle.dw_board.specs.Geometry.{Geometry, IsBoard, OnBoard, row, column, step, and_then, moved, back}
use Rattle.dw_moves.proofs.StepLemmas.{IsNext, step_is, row_low, column_low}

moved_back : (b : Bool) (n x y : ℕ) → IsNext b x y → x < n → moved (not b) n y ≡ Some x
moved_back true n x y h low =
    let less : nat_lt 0 y ≡ true = lt-ltb 0 y (omega arith) in
    let is : y - 1 ≡ x = omega arith in
    rw less (ap Some is)
moved_back false n x y h low =
    let less : nat_lt (y + 1) n ≡ true = lt-ltb (y + 1) n (omega arith) in
    let is : y + 1 ≡ x = omega arith in
    rw less (ap Some is)

-- a square by its row and column
by_row : (g : Geometry) → IsBoard g → (s : ℕ) → OnBoard g s → row g s * g.per_row + column g s / 2 + 1 ≡ s
by_row g b s on =
    let m : ℕ = (s - 1) % g.per_row in
    let half : (2 * m + (1 - row g s % 2)) / 2 ≡ m = omega arith in
    let turned : g.per_row * row g s ≡ row g s * g.per_row = omega arith in
    let whole : g.per_row * row g s + m ≡ s - 1 = div-add-mod (s - 1) g.per_row in
    omega (arith, half, turned, whole, on.0)

back_by : (g : Geometry) → IsBoard g → (s t : ℕ) (down right : Bool) → OnBoard g s → IsNext down (row g s) (row g t)
    → IsNext right (column g s) (column g t)
    → and_then (moved (not down) g.rows (row g t)) (λ r. and_then (moved (not right) (2 * g.per_row) (column g t))
    (λ c. Some (r * g.per_row + c / 2 + 1))) ≡ Some s
back_by g b s t down right on rows columns =
    let r = moved_back down g.rows (row g s) (row g t) rows (row_low g b s on) in
    let c = moved_back right (2 * g.per_row) (column g s) (column g t) columns (column_low g b s) in
    let f : ℕ → Option ℕ = λ q. and_then (moved (not right) (2 * g.per_row) (column g t))
    (λ c. Some (q * g.per_row + c / 2 + 1)) in
    ap (λ o. and_then o f) r ∙ (ap (λ o. and_then o (λ c. Some (row g s * g.per_row + c / 2 + 1))) c
    ∙ ap Some (by_row g b s on))

pub step_back : (g : Geometry) → IsBoard g → (s t : ℕ) (d : Dir) → OnBoard g s → step g s d ≡ Some t → step g t (back d)
    ≡ Some s
step_back g b s t UpLeft on e = let h = step_is g b s t UpLeft on e in back_by g b s t false false on h.rows h.columns
step_back g b s t UpRight on e = let h = step_is g b s t UpRight on e in back_by g b s t false true on h.rows h.columns
step_back g b s t DownLeft on e = let h = step_is g b s t DownLeft on e in back_by g b s t true false on h.rows
    h.columns
step_back g b s t DownRight on e = let h = step_is g b s t DownRight on e in back_by g b s t true true on h.rows
    h.columns
