-- Where a step leads: one row and one column further, and to a square of the board.
use Rattle.std.proofs.Common.{◌≡◌, ℕ, ◌+◌, ◌-◌, ◌*◌, ◌/◌, ◌%◌, ◌<◌, ◌≤◌, refl, sym, ap, ◌∙◌, subst, mod-lt}
use Rattle.std.proofs.Common.{mul-le-mul_right, arith, Bool, true, false, Option, Some, None}
use Rattle.std.specs.Prelude.{nat_lt}
use Rattle.std.proofs.lemmas.Bool.{ltb-true}
use Rattle.std.proofs.lemmas.Option.{cond_some}
use Rattle.std.proofs.lemmas.Nat.{div-mul-add, mod-mul-add}
use Rattle.std.proofs.Math.Nat.{div-lt_iff_lt-mul}
use Rattle.dw_board.specs.declared.board.Dir.{Dir}
use Rattle.dw_board.specs.Geometry.{Geometry, IsBoard, OnBoard, row, column, step, and_then, moved, is_down, is_right}

-- y is the place behind x, or the one before it
abbrev pub IsNext : Bool → ℕ → ℕ → Type 0
IsNext true x y = y ≡ x + 1
IsNext false x y = x ≡ y + 1

pub none_some : {A : Type 0} → (x : A) → None ≡ Some x → ⊥
none_some x e = cc

moved_is : (b : Bool) (n x y : ℕ) → moved b n x ≡ Some y → x < n → IsNext b x y × (y < n)
moved_is true n x y e low = let h = cond_some (nat_lt (x + 1) n) (x + 1) y e in let t : x + 1
    < n = ltb-true (x + 1) n h.0 in let same : x + 1 ≡ y = h.1 in (sym same, omega arith)
moved_is false n x y e low = let h = cond_some (nat_lt 0 x) (x - 1) y e in let t : 0 < x = ltb-true 0 x h.0 in
    let same : x - 1 ≡ y = h.1 in (omega arith, omega arith)

then_some : (o : Option ℕ) (f : ℕ → Option ℕ) (t : ℕ) → and_then o f ≡ Some t → (x : ℕ) × (o ≡ Some x) × (f x ≡ Some t)
then_some None f t e = absurd (none_some t e)
then_some (Some x) f t e = (x, refl, e)

pub some_inj : {A : Type 0} {x y : A} → Some x ≡ Some y → x ≡ y
some_inj e = cc

at_most : (rows per_row r q : ℕ) → r < rows → q < per_row → (t : ℕ) → r * per_row + q + 1 ≡ t → t ≤ rows * per_row
at_most rows per_row r q h k t e =
    let more : (r + 1) * per_row ≤ rows * per_row = mul-le-mul_right {m = r + 1} {n = rows} per_row (omega arith) in
    let is : (r + 1) * per_row ≡ r * per_row + per_row = omega arith in
    omega arith

-- what a step gives
pub record Stepped (g : Geometry) (d : Dir) (s t : ℕ) : Type 0 where
  pub rows : IsNext (is_down d) (row g s) (row g t)
  pub columns : IsNext (is_right d) (column g s) (column g t)
  pub on : OnBoard g t

pub row_low : (g : Geometry) → IsBoard g → (s : ℕ) → OnBoard g s → row g s < g.rows
row_low g b s on = (div-lt_iff_lt-mul {k = g.per_row} {x = s - 1} {y = g.rows} (omega (arith, b.low))).1
    (omega (arith, on.0, on.1))

pub column_low : (g : Geometry) → IsBoard g → (s : ℕ) → column g s < 2 * g.per_row
column_low g b s = let q : (s - 1) % g.per_row < g.per_row = mod-lt (s - 1) {m = g.per_row} (omega (arith, b.low)) in
    omega arith

-- the light and the dark squares alternate
parity : (down right : Bool) (r q c p : ℕ) → IsNext down r q → IsNext right (2 * p + (1 - r % 2)) c
    → 2 * (c / 2) + (1 - q % 2) ≡ c
parity true true r q c p h k = omega arith
parity true false r q c p h k = omega arith
parity false true r q c p h k = omega arith
parity false false r q c p h k = omega arith

pub step_is : (g : Geometry) → IsBoard g → (s t : ℕ) (d : Dir) → OnBoard g s → step g s d ≡ Some t → Stepped g d s t
step_is g b s t d on e =
    let a = then_some (moved (is_down d) g.rows (row g s))
    (λ r. and_then (moved (is_right d) (2 * g.per_row) (column g s)) (λ c. Some (r * g.per_row + c / 2 + 1))) t e in
    let r : ℕ = a.0 in
    let k = then_some (moved (is_right d) (2 * g.per_row) (column g s)) (λ c. Some (r * g.per_row + c / 2 + 1)) t a.2 in
    let c : ℕ = k.0 in
    let rows_next = moved_is (is_down d) g.rows (row g s) r a.1 (row_low g b s on) in
    let columns_next = moved_is (is_right d) (2 * g.per_row) (column g s) c k.1 (column_low g b s) in
    let q : ℕ = c / 2 in
    let q_low : q < g.per_row = omega (arith, columns_next.1) in
    let t_is : r * g.per_row + q + 1 ≡ t = some_inj k.2 in
    let before : t - 1 ≡ r * g.per_row + q = omega arith in
    let up : row g t ≡ r = ap (λ n. n / g.per_row) before ∙ div-mul-add r g.per_row q q_low in
    let over : (t - 1) % g.per_row ≡ q = ap (λ n. n % g.per_row) before ∙ mod-mul-add r g.per_row q q_low in
    let column_is : column g t ≡ c = ap (λ n. 2 * n + (1 - row g t % 2)) over ∙ (ap (λ n. 2 * q + (1 - n % 2)) up
    ∙ parity (is_down d) (is_right d) (row g s) r c ((s - 1) % g.per_row) rows_next.0 columns_next.0) in
    let high : t ≤ g.rows * g.per_row = at_most g.rows g.per_row r q rows_next.1 q_low t t_is in
    record {
      rows = subst (IsNext (is_down d) (row g s)) (sym up) rows_next.0;
      columns = subst (IsNext (is_right d) (column g s)) (sym column_is) columns_next.0;
      on = (omega arith, high);
    }
