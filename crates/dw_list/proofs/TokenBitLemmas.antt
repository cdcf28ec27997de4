-- Numbers of sets of squares.
use Rattle.std.proofs.Common.{◌≡◌, ℕ, suc, zero, ◌+◌, ◌-◌, ◌*◌, ◌/◌, ◌%◌, ◌^◌, ◌≤◌, ◌<◌, Bool, true, false, cond, ◌&&◌}
use Rattle.std.proofs.Common.{eqb, leb, refl, sym, ap, ◌∙◌, subst, arith, inl, inr, bit_or, add-one}
use Rattle.std.specs.Int.{bit_at}
use Rattle.std.specs.Ordering.{nat_cmp}
use Rattle.std.specs.FinSet as set
use Rattle.std.specs.Cmp.{nat_cmp_total}
use Rattle.std.proofs.lemmas.Bool.{cases_lt, leb-true, le-leb, eq-eqb, and_parts, and_from, true≢false, or_cases}
use Rattle.std.proofs.lemmas.Bool.{or_left, or_right}
use Rattle.std.proofs.lemmas.Nat.Bits.{bit_at-zero, bit_at-lt, same_from_bits, bit_at_above}
use Rattle.std.proofs.lemmas.Nat.{shr-shr, shr_split, pow_pos, mod_below, shl_whole}
use Rattle.std.specs.Int.Bits.{or_zero_r}
use Rattle.dw_board.specs.Geometry.{Geometry, squares, OnBoard, Squares}
use Rattle.dw_board.specs.SquareSet.{is_set}
use Rattle.dw_board.specs.inner.SquareSetLemmas.{below_two, is_set-or, one_bit, here_bit, zero_one, member_more}
use Rattle.dw_board.specs.inner.SquareSetLemmas.{none_in_empty}
use Rattle.dw_list.specs.Tokens.{IsNumberOf, number_below, number_of}

same_tests : (a b : Bool) → (a ≡ true → b ≡ true) → (b ≡ true → a ≡ true) → a ≡ b
same_tests true b to from = sym (to refl)
same_tests false true to from = from refl
same_tests false false to from = refl

not_true : (b : Bool) → (b ≡ true → ⊥) → b ≡ false
not_true true never = absurd (never refl)
not_true false never = refl

-- ---- how many bits a number has
bit_clear : (n x : ℕ) → is_set n x ≡ false → bit_at n x ≡ 0
bit_clear n x e = elim (below_two (bit_at n x) (bit_at-lt n x)) [
  | inl none ↦ none
  | inr one ↦ absurd (true≢false (sym (eq-eqb _ _ one) ∙ e))
]

no_quotient : (n m q r : ℕ) → q * m + r ≡ n → q ≡ 0 → r < m → n < m
no_quotient n m zero r e z h = omega arith
no_quotient n m (suc q) r e z h = absurd (omega arith)

quotient_bits : (n k x : ℕ) → ((y : ℕ) → k ≤ y → is_set n y ≡ false) → bit_at (n / 2 ^ k) x ≡ bit_at 0 x
quotient_bits n k x clear = ap (λ m. m % 2) (shr-shr n k x) ∙ (bit_clear n (k + x) (clear (k + x) (omega arith))
    ∙ sym (bit_at-zero x))

pub small_from_bits : (n k : ℕ) → ((x : ℕ) → k ≤ x → is_set n x ≡ false) → n < 2 ^ k
small_from_bits n k clear =
    let none : n / 2 ^ k ≡ 0 = same_from_bits _ _ (λ x. quotient_bits n k x clear) in
    no_quotient n (2 ^ k) (n / 2 ^ k) (n % 2 ^ k) (shr_split n k) none (mod_below n (2 ^ k) (pow_pos k))

pub no_bit_above : (n k x : ℕ) → n < 2 ^ k → k ≤ x → is_set n x ≡ false
no_bit_above n k x fits high = ap (λ b. eqb b 1) (bit_at_above n k x fits high)

-- ---- the number of a set
number_to : (v : Squares) (n x : ℕ) → is_set (number_below v n) x ≡ true → (x < n) × (set.contains v (suc x) ≡ true)
unfolding number_below
number_to v zero x e = absurd (zero_one (ap (λ b. eqb b 1) (sym (bit_at-zero x)) ∙ e))
number_to v (suc n) x e = elim (or_cases _ _ (sym (is_set-or (number_below v n) _ x) ∙ e)) [
  | inl p ↦ let r = number_to v n x p in (let h = r.0 in omega arith, r.1)
  | inr p ↦ let q = one_bit (set.contains v (suc n)) n x p in
      (let h = q.1 in omega arith, subst (λ y. set.contains v (suc y) ≡ true) q.1 q.0)
]

number_from : (v : Squares) (n x : ℕ) → x < n → set.contains v (suc x) ≡ true → is_set (number_below v n) x ≡ true
unfolding number_below
number_from v zero x h e = absurd (omega arith)
number_from v (suc n) x h e = is_set-or (number_below v n) _ x ∙ (elim (cases_lt x n) [
  | inl below ↦ or_left _ _ (number_from v n x below e)
  | inr high ↦ let is : n ≡ x = omega arith in
      or_right _ _ (subst (λ y. is_set (cond (set.contains v (suc n)) (2 ^ n) 0) y
      ≡ true) is (here_bit (set.contains v (suc n)) n (subst (λ y. set.contains v (suc y) ≡ true) (sym is) e)))
])

-- ---- the number of a set, square by square
shifted_one : (n : ℕ) → n < 64 → 1 * 2 ^ n % 2 ^ 64 ≡ 2 ^ n
shifted_one n low = shl_whole 1 1 n 64 (omega arith) (omega arith) ∙ (let e : 1 * 2 ^ n ≡ 2 ^ n = omega arith in e)

pub number_with : (v : Squares) (n number : ℕ) → n < 64 → set.contains v (n + 1) ≡ true → number ≡ number_below v n
    → bit_or number (1 * 2 ^ n % 2 ^ 64) ≡ number_below v (n + 1)
unfolding number_below
number_with v n number low e is = rw (add-one, rw add-one at e, shifted_one n low, is) refl

pub number_without : (v : Squares) (n number : ℕ) → set.contains v (n + 1) ≡ false → number ≡ number_below v n
    → number ≡ number_below v (n + 1)
unfolding number_below
number_without v n number e is = rw (add-one, rw add-one at e) (is ∙ sym (or_zero_r (number_below v n)))

pub number_begin : (v : Squares) → 0 ≡ number_below v 0
unfolding number_below
number_begin v = refl

pub number_end : (g : Geometry) (v : Squares) (n number : ℕ) → n ≡ squares g → number ≡ number_below v n
    → number ≡ number_of g v
unfolding number_of
number_end g v n number e is = is ∙ ap (number_below v) e

pub number_of-small : (g : Geometry) (v : Squares) → number_of g v < 2 ^ squares g
unfolding number_of
number_of-small g v = small_from_bits _ _ (λ x high. not_true _ (λ e. let h = (number_to v (squares g) x e).0 in
    omega arith))

pub number_of-is : (g : Geometry) (v : Squares) → ((s : ℕ) → set.contains v s ≡ true → OnBoard g s)
    → IsNumberOf g v (number_of g v)
unfolding number_of
number_of-is g v on = record {
  bits = λ x. rw add-one (same_tests _ _
      (λ e. (number_to v (squares g) x e).1)
      (λ e. number_from v (squares g) x (let h = (on (suc x) e).1 in omega arith) e));
  only = on;
}

-- ---- a number's set
pub IsNumberOf-small : (g : Geometry) (v : Squares) (n : ℕ) → IsNumberOf g v n → n < 2 ^ squares g
IsNumberOf-small g v n is = small_from_bits n (squares g)
    (λ x high. not_true _ (λ e. let h = (is.only (x + 1) (sym (is.bits x) ∙ e)).1 in omega arith))

same_at : (g : Geometry) (v w : Squares) (n : ℕ) → IsNumberOf g v n → IsNumberOf g w n → (q : ℕ) → set.contains v q
    ≡ set.contains w q
same_at g v w n a b zero = not_true _ (λ e. let h = (a.only 0 e).0 in omega arith)
    ∙ sym (not_true _ (λ e. let h = (b.only 0 e).0 in omega arith))
same_at g v w n a b (suc x) = rw (← (add-one x)) (sym (a.bits x) ∙ b.bits x)

pub IsNumberOf-one : (g : Geometry) (v w : Squares) (n : ℕ) → IsNumberOf g v n → IsNumberOf g w n → v ≡ w
IsNumberOf-one g v w n a b = set.same_set nat_cmp_total set.nat_cmp-IsAntisymmetric v w (same_at g v w n a b)

-- ---- a number's set, square by square: the squares up to n
pub record IsGathered (number n : ℕ) (v : Squares) : Type 0 where
  pub are : (q : ℕ) → set.contains v q ≡ ((leb 1 q && leb q n) && is_set number (q - 1))

pub gathered_none : (number : ℕ) → IsGathered number 0 set.empty
gathered_none number = record {
  are = λ q. set.contains-empty nat_cmp q ∙ sym (ap (λ b. b && is_set number (q - 1)) (none_in_empty q));
}

gathered_more : (number n : ℕ) (v : Squares) (b : Bool) → is_set number n ≡ b → IsGathered number n v
    → IsGathered number (suc n) (cond b (set.insert v (suc n)) v)
gathered_more number n v b e h = record {
  are = λ q. member_more b (is_set number (q - 1)) v q n (h.are q)
      (λ is. ap (is_set number) (let k : q - 1 ≡ n = omega arith in k) ∙ e);
}

pub gathered_with : (number n : ℕ) (v : Squares) → is_set number n ≡ true → IsGathered number n v
    → IsGathered number (n + 1) (set.insert v (n + 1))
gathered_with number n v e h = rw add-one (gathered_more number n v true e h)

pub gathered_without : (number n : ℕ) (v : Squares) → is_set number n ≡ false → IsGathered number n v
    → IsGathered number (n + 1) v
gathered_without number n v e h = rw add-one (gathered_more number n v false e h)

gathered_bit : (g : Geometry) (number x : ℕ) → number < 2 ^ squares g → is_set number x ≡ true → leb (suc x) (squares g)
    ≡ true
gathered_bit g number x fits e = elim (cases_lt x (squares g)) [
  | inl low ↦ le-leb (suc x) (squares g) (omega arith)
  | inr high ↦ absurd (true≢false (sym e ∙ no_bit_above number (squares g) x fits high))
]

seen_bit : (number x : ℕ) → is_set number x ≡ true → is_set number (suc x - 1) ≡ true
seen_bit number x e = let k : suc x - 1 ≡ x = omega arith in ap (is_set number) k ∙ e

bit_behind : (number x : ℕ) → is_set number (suc x - 1) ≡ true → is_set number x ≡ true
bit_behind number x e = let k : suc x - 1 ≡ x = omega arith in ap (is_set number) (sym k) ∙ e

one_below : (x : ℕ) → leb 1 (suc x) ≡ true
one_below x = le-leb 1 (suc x) (omega arith)

pub gathered_all : (g : Geometry) (number : ℕ) (v : Squares) → number < 2 ^ squares g → IsGathered number (squares g) v
    → IsNumberOf g v number
gathered_all g number v fits h = record {
  bits = λ x. rw add-one (same_tests _ _
      (λ e. h.are (suc x) ∙ and_from _ _ (and_from _ _ (one_below x) (gathered_bit g number x fits e))
      (seen_bit number x e))
      (λ e. bit_behind number x (and_parts _ _ (sym (h.are (suc x)) ∙ e)).1));
  only = λ s e. let p = and_parts _ _ (and_parts _ _ (sym (h.are s) ∙ e)).0 in (leb-true _ _ p.0, leb-true _ _ p.1);
}

pub gathered_end : (g : Geometry) (number n : ℕ) (v : Squares) → n ≡ squares g → number < 2 ^ squares g
    → IsGathered number n v → (number < 2 ^ squares g) × IsNumberOf g v number
gathered_end g number n v e fits h = (fits, gathered_all g number v fits (subst (λ k. IsGathered number k v) e h))

-- ---- what a shift tells of a number's size
pub shifted_all : (number k : ℕ) → number / 2 ^ k ≡ 0 → number < 2 ^ k
shifted_all number k e = no_quotient number (2 ^ k) (number / 2 ^ k) (number % 2 ^ k) (shr_split number k) e
    (mod_below number (2 ^ k) (pow_pos k))

pub all_squares : (g : Geometry) (rows per_row : ℕ) → rows ≡ g.rows → per_row ≡ g.per_row → rows * per_row ≡ squares g
all_squares g rows per_row r p = rw (r, p) refl
