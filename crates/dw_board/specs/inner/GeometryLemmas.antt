-- The laws of a board follow from its numbers: there are four boards, and each is a table.
use Rattle.std.proofs.Common.{◌≡◌, ℕ, suc, zero, ◌+◌, ◌-◌, ◌*◌, ◌/◌, ◌≤◌, Bool, true, false, cond, ◌&&◌, eqb, leb}
use Rattle.std.proofs.Common.{Option, Some, None, refl, sym, ap, ◌∙◌, subst, arith, ◌⊎◌, inl, inr, ◌↔◌}
use Rattle.std.proofs.lemmas.Bool.{agree_below, agree_below_at, leb-true, eqb-true, and_parts, cases_Bool, le-leb}
use Rattle.std.proofs.lemmas.Bool.{true≢false}
use Rattle.std.proofs.lemmas.Bool.Decides.{nat_tests}
use Rattle.dw_board.specs.declared.board.Dir.{Dir}
use Rattle.dw_board.specs.declared.board.Dir.TheVariants.{UpLeft, UpRight, DownLeft, DownRight}
use Rattle.dw_board.specs.SquareSet.{square_at}
use Rattle.dw_board.specs.Geometry.{Geometry, IsBoard, squares, step, OnBoard, bit, IsShift, ShiftsAreSteps, and_then}

which : (p : ℕ) → 2 ≤ p → p ≤ 5 → (p ≡ 2) ⊎ ((p ≡ 3) ⊎ ((p ≡ 4) ⊎ (p ≡ 5)))
which p low high = grind arith

-- a fact of the numbers of rows and of squares a row, at each board
pub at_boards : (P : ℕ → ℕ → Type 0) → P 4 2 → P 6 3 → P 8 4 → P 10 5 → (r p : ℕ) → r ≡ 2 * p → 2 ≤ p → p ≤ 5 → P r p
at_boards P a b c d r p e low high =
    elim (which p low high) [
      | inl h ↦ let er : 4 ≡ r = omega arith in let ep : 2 ≡ p = omega arith in subst (λ x. P x p) er (subst (P 4) ep a)
      | inr h ↦ elim h [
        | inl h ↦ let er : 6 ≡ r = omega arith in let ep : 3 ≡ p = omega arith in
            subst (λ x. P x p) er (subst (P 6) ep b)
        | inr h ↦ elim h [
          | inl h ↦ let er : 8 ≡ r = omega arith in let ep : 4 ≡ p = omega arith in
              subst (λ x. P x p) er (subst (P 8) ep c)
          | inr h ↦ let er : 10 ≡ r = omega arith in let ep : 5 ≡ p = omega arith in
              subst (λ x. P x p) er (subst (P 10) ep d)
        ]
      ]
    ]

abbrev pub shifted_place : Geometry → Dir → ℕ → Option ℕ
shifted_place g UpLeft x = cond (leb (g.per_row + 1) x) (Some (x - (g.per_row + 1))) None
shifted_place g UpRight x = cond (leb g.per_row x) (Some (x - g.per_row)) None
shifted_place g DownLeft x = Some (x + g.per_row)
shifted_place g DownRight x = Some (x + (g.per_row + 1))

abbrev same : Option ℕ → Option ℕ → Bool
same None None = true
same None (Some y) = false
same (Some x) None = false
same (Some x) (Some y) = eqb x y

same-true : (x y : Option ℕ) → same x y ≡ true → x ≡ y
same-true None None e = refl
same-true None (Some y) e = cc
same-true (Some x) None e = cc
same-true (Some x) (Some y) e = ap Some (eqb-true x y e)

abbrev of : ℕ → ℕ → Geometry
of r p = record { rows = r; per_row = p; side = 1 }

abbrev row_passes : Geometry → Dir → ℕ → Bool
row_passes g d k = same (step g (suc k) d) (and_then (shifted_place g d (bit g (suc k))) (square_at g))

abbrev all_pass : (ℕ → Bool) → ℕ → Type 0
all_pass f n = agree_below f (λ _. true) n ≡ true

step_table : (r p : ℕ) → r ≡ 2 * p → 2 ≤ p → p ≤ 5 → (d : Dir) → all_pass (row_passes (of r p) d) (r * p)
step_table = at_boards (λ r p. (d : Dir) → all_pass (row_passes (of r p) d) (r * p)) (elim [
  | UpLeft ↦ refl
  | UpRight ↦ refl
  | DownLeft ↦ refl
  | DownRight ↦ refl
]) (elim [
  | UpLeft ↦ refl
  | UpRight ↦ refl
  | DownLeft ↦
      refl
  | DownRight ↦ refl
]) (elim [
  | UpLeft ↦ refl
  | UpRight ↦ refl
  | DownLeft ↦ refl
  | DownRight ↦
      refl
]) (elim [ UpLeft ↦ refl | UpRight ↦ refl | DownLeft ↦ refl | DownRight ↦ refl ])

-- the place of each square is that square's
place_table : (r p : ℕ) → r ≡ 2 * p → 2 ≤ p → p ≤ 5
    → all_pass (λ k. same (square_at (of r p) (bit (of r p) (suc k))) (Some (suc k))) (r * p)
place_table = at_boards (λ r p. all_pass (λ k. same (square_at (of r p) (bit (of r p) (suc k))) (Some (suc k))) (r * p))
    refl refl refl refl

abbrev back : Geometry → ℕ → Option ℕ → Bool
back g x None = true
back g x (Some t) = leb 1 t && (leb t (squares g) && eqb (bit g t) x)

back_table : (r p : ℕ) → r ≡ 2 * p → 2 ≤ p → p ≤ 5
    → all_pass (λ x. back (of r p) x (square_at (of r p) x)) (r * p + r / 2)
back_table = at_boards (λ r p. all_pass (λ x. back (of r p) x (square_at (of r p) x)) (r * p + r / 2)) refl refl
    refl refl

-- a step is a shift of the place
pub step-shifted_place : (g : Geometry) → IsBoard g → (s : ℕ) (d : Dir) → OnBoard g s
    → step g s d ≡ and_then (shifted_place g d (bit g s)) (square_at g)
step-shifted_place g b zero d on = absurd (omega arith)
step-shifted_place g b (suc k) d on =
    same-true _ _ (agree_below_at (row_passes g d) (λ _. true) (squares g) k
    (step_table g.rows g.per_row b.even b.low b.high d) (omega arith))

pub square_at-bit : (g : Geometry) → IsBoard g → (s : ℕ) → OnBoard g s → square_at g (bit g s) ≡ Some s
square_at-bit g b zero on = absurd (omega arith)
square_at-bit g b (suc k) on =
    same-true _ _ (agree_below_at (λ k. same (square_at g (bit g (suc k))) (Some (suc k))) (λ _. true) (squares g) k
    (place_table g.rows g.per_row b.even b.low b.high) (omega arith))

back_parts : (g : Geometry) (x t : ℕ) → back g x (Some t) ≡ true → OnBoard g t × (bit g t ≡ x)
back_parts g x t e =
    let a = and_parts _ _ e in
    let c = and_parts _ _ a.1 in
    ((leb-true _ _ a.0, leb-true _ _ c.0), eqb-true _ _ c.1)

some_of : (c d : Bool) (n t : ℕ) → c ≡ false → cond (c && d) (Some n) None ≡ Some t → ⊥
some_of true d n t h e = absurd (true≢false h)
some_of false d n t h e = cc

-- the places below those of the board, and beyond them no square
pub bit-square_at : (g : Geometry) → IsBoard g → (x t : ℕ) → square_at g x ≡ Some t → OnBoard g t × (bit g t ≡ x)
bit-square_at g b x t e =
    elim (cases_Bool (leb (x + 1) (squares g + g.rows / 2))) [
      | inl h ↦
          let p = agree_below_at (λ x. back g x (square_at g x)) (λ _. true) (squares g + g.rows / 2) x
          (back_table g.rows g.per_row b.even b.low b.high) (let w = leb-true _ _ h in omega arith) in
          back_parts g x t (subst (λ o. back g x o ≡ true) e p)
      | inr h ↦ absurd (some_of _ _ _ t h e)
    ]

none_some : (t : ℕ) → None ≡ Some t → ⊥
none_some t e = cc

pub and_then_square : (g : Geometry) → IsBoard g → (o : Option ℕ) (t : ℕ) → and_then o (square_at g) ≡ Some t
    → OnBoard g t × (o ≡ Some (bit g t))
and_then_square g b None t e = absurd (none_some _ e)
and_then_square g b (Some x) t e = let h = bit-square_at g b x t e in (h.0, ap Some (sym h.1))

pub step-OnBoard : (g : Geometry) → IsBoard g → (s t : ℕ) (d : Dir) → OnBoard g s → step g s d ≡ Some t → OnBoard g t
step-OnBoard g b s t d on e = (and_then_square g b (shifted_place g d (bit g s)) t
    (sym (step-shifted_place g b s d on) ∙ e)).0

up_to : (k x y : ℕ) → cond (leb k x) (Some (x - k)) None ≡ Some y → x ≡ y + k
up_to k x y h = grind (arith, nat_tests)

up_from : (k x y : ℕ) → x ≡ y + k → cond (leb k x) (Some (x - k)) None ≡ Some y
up_from k x y h = let t : leb k x ≡ true = le-leb k x (omega arith) in let e : x - k ≡ y = omega arith in
    rw t (ap Some e)

up_by : (k x y : ℕ) → (cond (leb k x) (Some (x - k)) None ≡ Some y) ↔ (x ≡ y + k)
up_by k x y = (up_to k x y, up_from k x y)

down_by : (k x y : ℕ) → (Some (x + k) ≡ Some y) ↔ (y ≡ x + k)
down_by k x y = (λ h. cc, λ h. cc)

shift_place : (g : Geometry) (d : Dir) (x y : ℕ) → (shifted_place g d x ≡ Some y) ↔ IsShift g d x y
shift_place g UpLeft x y = up_by (g.per_row + 1) x y
shift_place g UpRight x y = up_by g.per_row x y
shift_place g DownLeft x y = down_by g.per_row x y
shift_place g DownRight x y = down_by (g.per_row + 1) x y

pub shifts_are_steps : (g : Geometry) → IsBoard g → ShiftsAreSteps g
shifts_are_steps g b s t d on to =
    let e = step-shifted_place g b s d on in (
      (λ h. (shift_place g d (bit g s) (bit g t)).0 (and_then_square g b _ t (sym e ∙ h)).1),
      (λ h. e ∙ ap (λ o. and_then o (square_at g)) ((shift_place g d (bit g s) (bit g t)).1 h)
          ∙ square_at-bit g b t to),
    )
