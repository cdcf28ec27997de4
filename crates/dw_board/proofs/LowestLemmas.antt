-- A word without its lowest one.
use Rattle.std.proofs.Common.{add-one, ◌≡◌, ◌∙◌, ℕ, ◌+◌, ◌-◌, ◌*◌, ◌/◌, ◌%◌, ◌^◌, ◌<◌, Bool, true, false, not, ◌&&◌}
use Rattle.std.proofs.Common.{eqb, refl, sym, ap, arith, inl, inr, bit_and, w64}
use Rattle.std.specs.Int.{bit_at, trailing_zeros}
use Rattle.std.specs.FinSet as set
use Rattle.std.proofs.lemmas.Bool.{cases_lt, cases_eq, and_parts, eq-eqb, ne_eqb}
use Rattle.std.proofs.lemmas.Nat.{pow_pos, shr_split}
use native.Mathlib.Nat.{pow-suc}
use Rattle.std.proofs.lemmas.Nat.Bits.{bit_at-trailing_zeros, bit_at-zero, bit_at_above, bit_at_cat_low}
use Rattle.std.proofs.lemmas.Nat.Bits.{bit_at_cat_high, same_from_bits}
use Rattle.dw_board.specs.Geometry.{Geometry, IsBoard, bit, square_of, IsPlace, Squares}
use Rattle.dw_board.specs.SquareSet.{is_set, squares_of, OnlySquares}
use Rattle.dw_board.specs.inner.SquareSetLemmas.{contains-here}
use Rattle.dw_board.proofs.SetLemmas.{contains-remove, is_set-and, same_place, squares_of-is, squares_of-within}
use Rattle.dw_board.proofs.CountingLemmas.{bit_at-low, low_split, word-fits, least-place}

-- the bits below are those of no number
no_low : (w x : ℕ) → ((i : ℕ) → i < x → bit_at w i ≡ 0) → w % 2 ^ x ≡ 0
no_low w x below = same_from_bits _ _ (λ i. elim (cases_lt i x) [
  | inl low ↦ bit_at-low w x i low ∙ (below i low ∙ sym (bit_at-zero i))
  | inr high ↦ bit_at_above (w % 2 ^ x) x i (omega (arith, pow_pos x)) high ∙ sym (bit_at-zero i)
])

parts : (w x : ℕ) → bit_at w x ≡ 1 → ((i : ℕ) → i < x → bit_at w i ≡ 0) → w ≡ w / 2 ^ (x + 1) * 2 ^ (x + 1) + 2 ^ x
parts w x e below =
    let low = low_split w x in
    let one = ap (λ n. n * 2 ^ x) e in
    let none = no_low w x below in
    let all = shr_split w (x + 1) in
    omega arith

one_less : (w x : ℕ) → bit_at w x ≡ 1 → ((i : ℕ) → i < x → bit_at w i ≡ 0)
    → w - 1 ≡ w / 2 ^ (x + 1) * 2 ^ (x + 1) + (2 ^ x - 1)
one_less w x e below = let whole = parts w x e below in let some = pow_pos x in omega arith

wider : (x : ℕ) → 2 ^ (x + 1) ≡ 2 ^ x * 2
wider x = ap (λ k. 2 ^ k) (add-one x) ∙ pow-suc 2 x

both_same : (b : Bool) → (b && b) ≡ (true && b)
both_same true = refl
both_same false = refl

-- of the bits of w and w - 1, the lowest of w is gone
pub is_set-lowered : (w x y : ℕ) → bit_at w x ≡ 1 → ((i : ℕ) → i < x → bit_at w i ≡ 0) → is_set (bit_and w (w - 1)) y
    ≡ (not (eqb y x) && is_set w y)
is_set-lowered w x y e below = is_set-and w (w - 1) y ∙ (elim (cases_eq y x) [
  | inl same ↦
      let some = pow_pos x in
      let gone = ap (λ n. bit_at n x) (one_less w x e below)
      ∙ (bit_at_cat_low (w / 2 ^ (x + 1)) (x + 1) (2 ^ x - 1) x (omega arith)
      ∙ bit_at_above (2 ^ x - 1) x x (omega arith) (omega arith)) in
      rw (same, eq-eqb x x refl, gone, e) refl
  | inr other ↦ elim (cases_lt y x) [
    | inl low ↦ rw (ne_eqb y x other, below y low) refl
    | inr high ↦
        let some = pow_pos x in
        let more = wider x in
        let now = ap (λ n. bit_at n y) (one_less w x e below) ∙ bit_at_cat_high (w / 2 ^ (x + 1)) (x + 1) (2 ^ x - 1) y
        (omega arith) (omega arith) in
        let before = ap (λ n. bit_at n y) (parts w x e below) ∙ bit_at_cat_high (w / 2 ^ (x + 1)) (x + 1) (2 ^ x) y
        (omega arith) (omega arith) in
        rw (ne_eqb y x other, now ∙ sym before) (both_same (is_set w y))
  ]
])

squares_of-lowered : (g : Geometry) → IsBoard g → (w x : ℕ) → IsPlace g x → bit_at w x ≡ 1
    → ((i : ℕ) → i < x → bit_at w i ≡ 0)
    → squares_of g (bit_and w (w - 1)) ≡ set.remove (squares_of g w) (square_of g x)
squares_of-lowered g b w x is e below =
    let s = square_of g x in
    squares_of-is g _ (set.remove (squares_of g w) s)
    (λ q has. squares_of-within g w q (and_parts _ _ (sym (contains-remove (squares_of g w) s q) ∙ has)).1)
    (λ q to. contains-remove (squares_of g w) s q
    ∙ (ap (λ c. not (eqb q s) && c) (contains-here g w q to)
    ∙ (ap (λ c. not c && is_set w (bit g q)) (same_place g b q s to is.on ∙ ap (eqb (bit g q)) is.back)
    ∙ sym (is_set-lowered w x (bit g q) e below))))

-- the set of the lowered word has all squares but the least
pub rest-is : (g : Geometry) → IsBoard g → (w : ℕ) (v : Squares) → squares_of g w ≡ v → OnlySquares g w → (w ≡ 0 → ⊥)
    → squares_of g (bit_and w (w - 1)) ≡ set.remove v (square_of g (trailing_zeros w64 w))
rest-is g b w v e only some =
    let x = trailing_zeros w64 w in
    let t = bit_at-trailing_zeros w64 w (omega arith) (word-fits g b w only) in
    squares_of-lowered g b w x (least-place g b w only some) t.1 t.2 ∙ ap (λ u. set.remove u (square_of g x)) e
