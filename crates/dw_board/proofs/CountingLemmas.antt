-- A word has as many ones as its set has squares.
use Rattle.std.proofs.Common.{◌≡◌, ℕ, suc, zero, ◌+◌, ◌*◌, ◌/◌, ◌%◌, ◌^◌, ◌≤◌, ◌<◌, Bool, true, false, cond, not, ◌&&◌}
use Rattle.std.proofs.Common.{◌||◌, eqb, is_some, refl, sym, ap, ◌∙◌, subst, arith, inl, inr, count_ones, add_comm}
use Rattle.std.proofs.Common.{zero-add, w64}
use Rattle.std.specs.Int.{bit_at, trailing_zeros}
use Rattle.std.specs.FinSet as set
use Rattle.std.specs.Ordering.{nat_cmp}
use Rattle.std.specs.Cmp.{nat_cmp_total}
use Rattle.std.specs.Int.Count.{ones, ones_in}
use Rattle.std.proofs.lemmas.Bool.{agree_below, agree_below_at, eqb-true, cases_Bool, cases_lt, or_cases, and_parts}
use Rattle.std.proofs.lemmas.Bool.{true≢false, eq-eqb}
use Rattle.std.proofs.lemmas.Nat.{mod-pow-add, ones_cat, pow_pos, shr_split}
use Rattle.std.proofs.lemmas.Nat.Bits.{bit_at-trailing_zeros, bit_at-lt, bit_at_above, bit_at_cat_low, same_from_bits}
use Rattle.dw_board.specs.Geometry.{Geometry, IsBoard, squares, OnBoard, bit, square_of, IsPlace, Squares}
use Rattle.dw_board.specs.inner.GeometryLemmas.{at_boards, bit-square_at}
use Rattle.dw_board.specs.SquareSet.{is_set, square_at, members_below, squares_of, OnlySquares}
use Rattle.dw_board.specs.inner.SquareSetLemmas.{contains-members_below, below_two, some_square, bit-small}
use Rattle.dw_board.specs.inner.SquareSetLemmas.{contains-here}
use Rattle.dw_board.proofs.SetLemmas.{past_range, bit-below, place-is, least_member}

-- ---- the ones of the low bits
ones_of_bit : (n : ℕ) → n < 2 → ones n ≡ n
unfolding ones ones_in
ones_of_bit n h = elim (below_two n h) [ inl e ↦ rw e refl | inr e ↦ rw e refl ]

pub low_split : (w k : ℕ) → w % 2 ^ (k + 1) ≡ bit_at w k * 2 ^ k + w % 2 ^ k
low_split w k = ap (λ n. w % 2 ^ n) (add_comm k 1) ∙ mod-pow-add w 1 k

ones_low : (w k : ℕ) → ones (w % 2 ^ (k + 1)) ≡ bit_at w k + ones (w % 2 ^ k)
ones_low w k = ap ones (low_split w k) ∙ (ones_cat k (bit_at w k) (w % 2 ^ k) (omega (arith, pow_pos k))
    ∙ ap (λ n. n + ones (w % 2 ^ k)) (ones_of_bit (bit_at w k) (bit_at-lt w k)))

ones_none : (w : ℕ) → ones (w % 2 ^ 0) ≡ 0
unfolding ones ones_in
ones_none w = let e : w % 2 ^ 0 ≡ 0 = omega arith in rw e refl

pub bit_at-low : (w k x : ℕ) → x < k → bit_at (w % 2 ^ k) x ≡ bit_at w x
bit_at-low w k x low = sym (bit_at_cat_low (w / 2 ^ k) k (w % 2 ^ k) x low) ∙ ap (λ m. bit_at m x) (shr_split w k)

-- a word with no bit from k on is its low bits
low_all : (w k : ℕ) → ((x : ℕ) → k ≤ x → bit_at w x ≡ 0) → w % 2 ^ k ≡ w
low_all w k none = same_from_bits _ _ (λ x. elim (cases_lt x k) [
  | inl low ↦ bit_at-low w k x low
  | inr high ↦ bit_at_above (w % 2 ^ k) k x (omega (arith, pow_pos k)) high ∙ sym (none x high)
])

-- ---- a step from a square's bit to that of the next
abbrev gate : Geometry → ℕ → ℕ
gate g zero = 0
gate g (suc n) = bit g (suc n) + 1

abbrev next_is : Geometry → ℕ → Bool
next_is g n = eqb (bit g (suc n)) (gate g n) || (eqb (bit g (suc n)) (gate g n + 1) && not
    (is_some (square_at g (gate g n))))

abbrev of : ℕ → ℕ → Geometry
of r p = record { rows = r; per_row = p; side = 1 }

next_table : (r p : ℕ) → r ≡ 2 * p → 2 ≤ p → p ≤ 5 → agree_below (next_is (of r p)) (λ _. true) (r * p) ≡ true
next_table = at_boards (λ r p. agree_below (next_is (of r p)) (λ _. true) (r * p) ≡ true) refl refl refl refl

no_bit : (g : Geometry) (w x : ℕ) → OnlySquares g w → is_some (square_at g x) ≡ false → bit_at w x ≡ 0
no_bit g w x only off = elim (below_two (bit_at w x) (bit_at-lt w x)) [
  | inl e ↦ e
  | inr e ↦ absurd (true≢false (sym (only x e) ∙ off))
]

not-true : (b : Bool) → not b ≡ true → b ≡ false
not-true true e = absurd (true≢false (sym e))
not-true false e = refl

ones_next : (g : Geometry) → IsBoard g → (w n : ℕ) → OnlySquares g w → n < squares g → ones (w % 2 ^ gate g (suc n))
    ≡ bit_at w (bit g (suc n)) + ones (w % 2 ^ gate g n)
ones_next g b w n only low =
    let t = agree_below_at (next_is g) (λ _. true) (squares g) n (next_table g.rows g.per_row b.even b.low b.high)
    low in
    ones_low w (bit g (suc n)) ∙ ap (λ k. bit_at w (bit g (suc n)) + k) (elim (or_cases _ _ t) [
      | inl e ↦ ap (λ k. ones (w % 2 ^ k)) (eqb-true _ _ e)
      | inr e ↦
          let p = and_parts _ _ e in
          ap (λ k. ones (w % 2 ^ k)) (eqb-true _ _ p.0)
          ∙ (ones_low w (gate g n) ∙ ap (λ k. k + ones (w % 2 ^ gate g n))
          (no_bit g w (gate g n) only (not-true _ p.1)) ∙ zero-add _)
    ])

-- ---- the squares up to n
pub len_more : (v : Squares) (c : Bool) (n : ℕ) → set.contains v n ≡ false → set.len (cond c (set.insert v n) v)
    ≡ cond c 1 0 + set.len v
len_more v true n e = set.len-insert nat_cmp_total v n ∙ (ap (λ b. cond b (set.len v) (set.len v + 1)) e ∙ add_comm _ 1)
len_more v false n e = omega arith

cond_bit : (n : ℕ) → n < 2 → cond (eqb n 1) 1 0 ≡ n
cond_bit n h = elim (below_two n h) [ inl e ↦ rw e refl | inr e ↦ rw e refl ]

len-below : (g : Geometry) (w n : ℕ) → set.len (members_below g w (suc n))
    ≡ bit_at w (bit g (suc n)) + set.len (members_below g w n)
unfolding members_below
len-below g w n = len_more (members_below g w n) (is_set w (bit g (suc n))) (suc n)
    (contains-members_below g w n (suc n) ∙ ap (λ b. b && is_set w (bit g (suc n))) (past_range n))
    ∙ ap (λ k. k + set.len (members_below g w n)) (cond_bit _ (bit_at-lt w (bit g (suc n))))

len-none : (g : Geometry) (w : ℕ) → set.len (members_below g w zero) ≡ 0
unfolding members_below
len-none g w = set.len-empty nat_cmp

ones_below : (g : Geometry) → IsBoard g → (w : ℕ) → OnlySquares g w → (n : ℕ) → n ≤ squares g → ones (w % 2 ^ gate g n)
    ≡ set.len (members_below g w n)
ones_below g b w only zero low = ones_none w ∙ sym (len-none g w)
ones_below g b w only (suc n) low = ones_next g b w n only (omega arith)
    ∙ (ap (λ k. bit_at w (bit g (suc n)) + k) (ones_below g b w only n (omega arith)) ∙ sym (len-below g w n))

len-small : (g : Geometry) (w n : ℕ) → set.len (members_below g w n) ≤ n
len-small g w zero = omega (arith, len-none g w)
len-small g w (suc n) = omega (arith, len-below g w n, len-small g w n, bit_at-lt w (bit g (suc n)))

pub len-squares_of : (g : Geometry) (w : ℕ) → set.len (squares_of g w) ≤ squares g
unfolding squares_of
len-squares_of g w = len-small g w (squares g)

gate-is : (g : Geometry) (n : ℕ) → 1 ≤ n → gate g n ≡ bit g n + 1
gate-is g zero h = absurd (omega arith)
gate-is g (suc n) h = refl

-- no square's bit is past the last square's
past_last : (g : Geometry) → IsBoard g → (x : ℕ) → gate g (squares g) ≤ x → is_some (square_at g x) ≡ false
past_last g b x high = elim (cases_Bool (is_some (square_at g x))) [
  | inl e ↦
      let s = some_square (square_at g x) e in
      let is = bit-square_at g b x s.0 s.1 in
      absurd (omega (arith, bit-below g b s.0 (squares g) is.0.1, gate-is g (squares g) (omega arith), is.1))
  | inr e ↦ e
]

pub ones-is : (g : Geometry) → IsBoard g → (w : ℕ) → OnlySquares g w → count_ones w ≡ set.len (squares_of g w)
unfolding squares_of
ones-is g b w only =
    ap ones (sym (low_all w (gate g (squares g)) (λ x high. no_bit g w x only (past_last g b x high))))
    ∙ ones_below g b w only (squares g) (omega arith)

off_past : (g : Geometry) → IsBoard g → (x : ℕ) → 64 ≤ x → is_some (square_at g x) ≡ false
off_past g b x high = elim (cases_Bool (is_some (square_at g x))) [
  | inl e ↦
      let s = some_square (square_at g x) e in
      let is = bit-square_at g b x s.0 s.1 in
      absurd (omega (arith, bit-small g b s.0 is.0, is.1))
  | inr e ↦ e
]

-- a word of squares fits 64 bits
pub word-fits : (g : Geometry) → IsBoard g → (w : ℕ) → OnlySquares g w → w < 2 ^ 64
word-fits g b w only = let e = low_all w 64 (λ x high. no_bit g w x only (off_past g b x high)) in omega (arith, e)

-- ---- the least square
pub record IsLeast (g : Geometry) (v : Squares) (n : ℕ) : Type 0 where
  pub on : OnBoard g n
  pub has : set.contains v n ≡ true
  pub least : (t : ℕ) → set.contains v t ≡ true → n ≤ t

least_here : (g : Geometry) → IsBoard g → (w x : ℕ) → OnlySquares g w → bit_at w x ≡ 1
    → ((i : ℕ) → i < x → bit_at w i ≡ 0) → IsLeast g (squares_of g w) (square_of g x)
least_here g b w x only e below =
    let is = place-is g b w x only e in
    record {
      on = is.0;
      has = contains-here g w (square_of g x) is.0 ∙ (ap (is_set w) is.1 ∙ eq-eqb _ _ e);
      least = least_member g b w x only e below;
    }

pub least-is : (g : Geometry) → IsBoard g → (w : ℕ) (v : Squares) → squares_of g w ≡ v → OnlySquares g w → (w ≡ 0 → ⊥)
    → IsLeast g v (square_of g (trailing_zeros w64 w))
least-is g b w v e only some =
    let t = bit_at-trailing_zeros w64 w (omega arith) (word-fits g b w only) in
    subst (λ u. IsLeast g u (square_of g (trailing_zeros w64 w))) e (least_here g b w (trailing_zeros w64 w) only t.1
    t.2)

pub least-place : (g : Geometry) → IsBoard g → (w : ℕ) → OnlySquares g w → (w ≡ 0 → ⊥)
    → IsPlace g (trailing_zeros w64 w)
least-place g b w only some =
    let t = bit_at-trailing_zeros w64 w (omega arith) (word-fits g b w only) in
    let is = place-is g b w (trailing_zeros w64 w) only t.1 in
    record { on = is.0; back = is.1; small = t.0 }

pub least-some : (g : Geometry) (v : Squares) (n : ℕ) → IsLeast g v n → v ≡ set.empty → ⊥
least-some g v n is e = true≢false (sym is.has ∙ (ap (λ u. set.contains u n) e ∙ set.contains-empty nat_cmp n))
