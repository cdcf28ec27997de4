-- Words and sets: what each operation on words does to the set.
use Rattle.std.proofs.Common.{◌≡◌, ℕ, suc, ◌+◌, ◌-◌, ◌*◌, ◌/◌, ◌%◌, ◌^◌, ◌≤◌, ◌<◌, Bool, true, false, cond, not, ◌&&◌}
use Rattle.std.proofs.Common.{◌||◌, eqb, leb, ltb, Option, Some, None, IsNone, IfSome, is_some, refl, sym, ap, ◌∙◌}
use Rattle.std.proofs.Common.{subst, arith, inl, inr, ◌↔◌, bit_or, bit_and, min}
use Rattle.std.specs.Int.{bit_at, bit_not}
use Rattle.std.specs.Ordering.{nat_cmp}
use Rattle.std.specs.FinSet as set
use Rattle.std.specs.Cmp.{nat_cmp_total, unsigned_tied}
use Rattle.std.proofs.lemmas.Bool.{cases_Bool, cases_lt, cases_eq, leb-true, eqb-true, eq-eqb, ne_eqb, and_parts}
use Rattle.std.proofs.lemmas.Bool.{lt-leb, lt-ltb, ltb-true, true≢false, or_cases, and_from}
use Rattle.std.proofs.lemmas.Nat.Bits.{bit_at_and, bit_at-zero, bit_at-lt, bit_at_cat_low, bit_at_cat_high}
use Rattle.std.proofs.lemmas.Nat.Bits.{bit_at_set_same, bit_at_set_other, bit_at_clear_same, bit_at_clear_other}
use Rattle.std.proofs.lemmas.Nat.Bits.{bit_at_not}
use Rattle.std.proofs.lemmas.Nat.{shr-shr, shr_split, pow_pos, le-div}
use Rattle.std.proofs.Math.Nat.{div-mul-le_self}
use Rattle.std.proofs.Common.{w64, add-zero}
use Rattle.dw_board.specs.declared.board.Dir.{Dir}
use Rattle.dw_board.specs.declared.board.Dir.TheVariants.{UpLeft, UpRight, DownLeft, DownRight}
use Rattle.dw_board.specs.Geometry.{Geometry, IsBoard, step, OnBoard, bit, square_of, IsPlace, IsShift, ShiftsAreSteps}
use Rattle.dw_board.specs.inner.Shifting.{shifted_word}
use Rattle.dw_board.specs.SquareSet.{is_set, square_at, squares_of, word_of, OnlySquares, WholeBoard, IsWord}
use Rattle.dw_board.specs.Geometry.{Squares, is_square}
use Rattle.dw_board.specs.inner.GeometryLemmas.{square_at-bit, bit-square_at, step-OnBoard}
use Rattle.dw_board.specs.inner.SquareSetLemmas.{contains-insert, and-false, contains-squares_of, is_square-true}
use Rattle.dw_board.specs.inner.SquareSetLemmas.{below_two, is_set-or, bit-small, square_of_bit, contains-here}
use Rattle.dw_board.specs.inner.SquareSetLemmas.{zero_one, word_of-squares_of, same_members, same_members-is}

pub contains-remove : (v : Squares) (k q : ℕ) → set.contains (set.remove v k) q ≡ (not (eqb q k) && set.contains v q)
contains-remove v k q = set.contains-remove nat_cmp_total v k q
    ∙ ap (λ b. not b && set.contains v q) (unsigned_tied q k)

pub past_range : (n : ℕ) → (leb 1 (suc n) && leb (suc n) n) ≡ false
past_range n = let h : leb (suc n) n ≡ false = lt-leb _ _ (omega arith) in rw h (and-false _)

pub some_injective : {x y : ℕ} → Some x ≡ Some y → x ≡ y
some_injective e = cc

pub bit-injective : (g : Geometry) → IsBoard g → (s t : ℕ) → OnBoard g s → OnBoard g t → bit g s ≡ bit g t → s ≡ t
bit-injective g b s t on to e = let p = square_at-bit g b s on in let q = square_at-bit g b t to in
    some_injective (sym p ∙ (ap (square_at g) e ∙ q))

pub is_square-on : (g : Geometry) (q : ℕ) → is_square g q ≡ true → OnBoard g q
is_square-on g q e = let p = and_parts _ _ e in (leb-true _ _ p.0, leb-true _ _ p.1)

-- a word's squares are a set where the set has no other numbers, and each square by the word's bit
pub squares_of-is : (g : Geometry) (w : ℕ) (v : Squares) → ((q : ℕ) → set.contains v q ≡ true → OnBoard g q)
    → ((q : ℕ) → OnBoard g q → set.contains v q ≡ is_set w (bit g q)) → squares_of g w ≡ v
squares_of-is g w v within is = set.same_set nat_cmp_total set.nat_cmp-IsAntisymmetric _ _
    (λ q. contains-squares_of g w q ∙ (elim (cases_Bool (is_square g q)) [
      | inl h ↦ rw h (sym (is q (is_square-on g q h)))
      | inr h ↦ rw h (sym (elim (cases_Bool (set.contains v q)) [
        | inl in_v ↦ absurd (true≢false (sym (is_square-true g q (within q in_v)) ∙ h))
        | inr out ↦ out
      ]))
    ]))

pub same_place : (g : Geometry) → IsBoard g → (q s : ℕ) → OnBoard g q → OnBoard g s → eqb q s ≡ eqb (bit g q) (bit g s)
same_place g b q s to on = elim (cases_eq q s) [
  | inl e ↦ eq-eqb q s e ∙ sym (eq-eqb _ _ (ap (bit g) e))
  | inr ne ↦ ne_eqb q s ne ∙ sym (ne_eqb _ _ (λ e. ne (bit-injective g b q s to on e)))
]

pub squares_of-within : (g : Geometry) (w q : ℕ) → set.contains (squares_of g w) q ≡ true → OnBoard g q
squares_of-within g w q e = is_square-on g q (and_parts _ _ (sym (contains-squares_of g w q) ∙ e)).0

pub min_bits : (a b : ℕ) → a < 2 → b < 2 → eqb (min a b) 1 ≡ (eqb a 1 && eqb b 1)
min_bits a b h k = elim (below_two a h) [
  | inl e ↦ elim (below_two b k) [
    | inl f ↦ rw (e, f) refl
    | inr f ↦
        rw (e, f) refl
  ]
  | inr e ↦ elim (below_two b k) [ inl f ↦ rw (e, f) refl | inr f ↦ rw (e, f) refl ]
]

pub min_not_bits : (a b : ℕ) → a < 2 → b < 2 → eqb (min a (1 - b)) 1 ≡ (eqb a 1 && not (eqb b 1))
min_not_bits a b h k = elim (below_two a h) [
  | inl e ↦ elim (below_two b k) [
    | inl f ↦ rw (e, f) refl
    | inr f ↦
        rw (e, f) refl
  ]
  | inr e ↦ elim (below_two b k) [ inl f ↦ rw (e, f) refl | inr f ↦ rw (e, f) refl ]
]

pub is_set-and : (a b x : ℕ) → is_set (bit_and a b) x ≡ (is_set a x && is_set b x)
is_set-and a b x = ap (λ n. eqb n 1) (bit_at_and a b x) ∙ min_bits _ _ (bit_at-lt a x) (bit_at-lt b x)

pub is_set-minus : (a b x : ℕ) → b < 2 ^ 64 → x < 64 → is_set (bit_and a (bit_not w64 b)) x
    ≡ (is_set a x && not (is_set b x))
is_set-minus a b x fits low = ap (λ n. eqb n 1) (bit_at_and a _ x
    ∙ ap (λ n. min (bit_at a x) n) (bit_at_not w64 b x fits low)) ∙ min_not_bits _ _ (bit_at-lt a x) (bit_at-lt b x)

pub is_set-with : (w k x : ℕ) → k < 64 → is_set (bit_or w (1 * 2 ^ k % 2 ^ 64)) x ≡ (eqb x k || is_set w x)
is_set-with w k x low = elim (cases_eq x k) [
  | inl e ↦ rw (e, bit_at_set_same w64 w k low, eq-eqb k k refl) refl
  | inr ne ↦ rw (bit_at_set_other w64 w k low x ne, ne_eqb x k ne) refl
]

pub is_set-without : (w k x : ℕ) → k < 64 → x < 64 → is_set (bit_and w (bit_not w64 (1 * 2 ^ k % 2 ^ 64))) x
    ≡ (not (eqb x k) && is_set w x)
is_set-without w k x low small = elim (cases_eq x k) [
  | inl e ↦ rw (e, bit_at_clear_same w64 w k low, eq-eqb k k refl) refl
  | inr ne ↦ rw (bit_at_clear_other w64 w k low x small ne, ne_eqb x k ne) refl
]

pub is_set-shr : (w k x : ℕ) → is_set (w / 2 ^ k) x ≡ is_set w (k + x)
is_set-shr w k x = ap (λ n. eqb (n % 2) 1) (shr-shr w k x)

pub bit_at-mod : (n x : ℕ) → x < 64 → bit_at (n % 2 ^ 64) x ≡ bit_at n x
bit_at-mod n x low = sym (bit_at_cat_low (n / 2 ^ 64) 64 (n % 2 ^ 64) x low) ∙ ap (λ m. bit_at m x) (shr_split n 64)

pub is_set-shl_low : (w k x : ℕ) → x < 64 → x < k → is_set (w * 2 ^ k % 2 ^ 64) x ≡ false
is_set-shl_low w k x small low = ap (λ n. eqb n 1) (bit_at-mod (w * 2 ^ k) x small
    ∙ (ap (λ n. bit_at n x) (sym (add-zero (w * 2 ^ k))) ∙ (bit_at_cat_low w k 0 x low ∙ bit_at-zero x)))

pub is_set-shl_high : (w k x : ℕ) → x < 64 → k ≤ x → is_set (w * 2 ^ k % 2 ^ 64) x ≡ is_set w (x - k)
is_set-shl_high w k x small high = ap (λ n. eqb n 1) (bit_at-mod (w * 2 ^ k) x small
    ∙ (ap (λ n. bit_at n x) (sym (add-zero (w * 2 ^ k))) ∙ bit_at_cat_high w k 0 x (pow_pos k) high))

-- ---- a word shifted by one step
pub shift_set : (g : Geometry) (d : Dir) (w x y : ℕ) → y < 64 → IsShift g d x y → is_set (shifted_word g d w) y
    ≡ is_set w x
shift_set g UpLeft w x y small h = is_set-shr w (g.per_row + 1) y ∙ ap (is_set w) (let e : g.per_row + 1 + y
    ≡ x = omega arith in e)
shift_set g UpRight w x y small h = is_set-shr w g.per_row y ∙ ap (is_set w) (let e : g.per_row + y
    ≡ x = omega arith in e)
shift_set g DownLeft w x y small h = is_set-shl_high w g.per_row y small (omega arith)
    ∙ ap (is_set w) (let e : y - g.per_row ≡ x = omega arith in e)
shift_set g DownRight w x y small h = is_set-shl_high w (g.per_row + 1) y small (omega arith)
    ∙ ap (is_set w) (let e : y - (g.per_row + 1) ≡ x = omega arith in e)

pub down_from : (w k y : ℕ) → y < 64 → is_set (w * 2 ^ k % 2 ^ 64) y ≡ true → (x : ℕ) × (y ≡ x + k)
down_from w k y small e = elim (cases_lt y k) [
  | inl low ↦ absurd (true≢false (sym e ∙ is_set-shl_low w k y small low))
  | inr high ↦ (y - k, omega arith)
]

pub shift_from : (g : Geometry) (d : Dir) (w y : ℕ) → y < 64 → is_set (shifted_word g d w) y ≡ true
    → (x : ℕ) × IsShift g d x y
shift_from g UpLeft w y small e = (y + (g.per_row + 1), refl)
shift_from g UpRight w y small e = (y + g.per_row, refl)
shift_from g DownLeft w y small e = down_from w g.per_row y small e
shift_from g DownRight w y small e = down_from w (g.per_row + 1) y small e

-- the squares of a shifted word are the steps from the word's squares
pub contains-shifted : (g : Geometry) → IsBoard g → ShiftsAreSteps g → (w m : ℕ) (d : Dir) → OnlySquares g w
    → WholeBoard g m → (t : ℕ)
    → (set.contains (squares_of g (bit_and (shifted_word g d w) m)) t ≡ true)
    ↔ ((s : ℕ) × ((set.contains (squares_of g w) s ≡ true) × (step g s d ≡ Some t)))
contains-shifted g b shifts w m d only whole t = (
  λ e.
      let to = squares_of-within g _ t e in
      let small = bit-small g b t to in
      let moved = (and_parts _ _ (sym (is_set-and (shifted_word g d w) m (bit g t))
      ∙ (sym (contains-here g _ t to) ∙ e))).0 in
      let x = shift_from g d w (bit g t) small moved in
      let set_x = sym (shift_set g d w x.0 (bit g t) small x.1) ∙ moved in
      let s = square_of_bit g b w x.0 only set_x in (
        s.0,
        (
          contains-here g w s.0 s.1.0 ∙ (ap (is_set w) s.1.1 ∙ set_x),
          (shifts s.0 t d s.1.0 to).1 (subst (λ x. IsShift g d x (bit g t)) (sym s.1.1) x.1),
        ),
      ),
  λ p.
      let on = squares_of-within g w p.0 p.1.0 in
      let to = step-OnBoard g b p.0 t d on p.1.1 in
      let small = bit-small g b t to in
      let h = shift_set g d w (bit g p.0) (bit g t) small ((shifts p.0 t d on to).0 p.1.1) in
      contains-here g _ t to ∙ (is_set-and (shifted_word g d w) m (bit g t)
      ∙ and_from _ _ (h ∙ (sym (contains-here g w p.0 on) ∙ p.1.0)) (whole.all t to)),
)

-- ---- what keeps to squares
pub OnlySquares-and : (g : Geometry) (a b : ℕ) → OnlySquares g b → OnlySquares g (bit_and a b)
OnlySquares-and g a b h x e = h x (eqb-true _ _ (and_parts _ _ (sym (is_set-and a b x) ∙ eq-eqb _ _ e)).1)

pub OnlySquares-and_left : (g : Geometry) (a b : ℕ) → OnlySquares g a → OnlySquares g (bit_and a b)
OnlySquares-and_left g a b h x e = h x (eqb-true _ _ (and_parts _ _ (sym (is_set-and a b x) ∙ eq-eqb _ _ e)).0)

pub OnlySquares-or : (g : Geometry) (a b : ℕ) → OnlySquares g a → OnlySquares g b → OnlySquares g (bit_or a b)
OnlySquares-or g a b h k x e = elim (or_cases _ _ (sym (is_set-or a b x) ∙ eq-eqb _ _ e))
    [ inl p ↦ h x (eqb-true _ _ p) | inr p ↦ k x (eqb-true _ _ p) ]

pub OnlySquares-with : (g : Geometry) → IsBoard g → (w s : ℕ) → OnBoard g s → OnlySquares g w
    → OnlySquares g (bit_or w (1 * 2 ^ bit g s % 2 ^ 64))
OnlySquares-with g b w s on h x e = elim (or_cases _ _ (sym (is_set-with w (bit g s) x (bit-small g b s on))
    ∙ eq-eqb _ _ e)) [
      | inl p ↦ ap (λ y. is_some (square_at g y)) (eqb-true _ _ p) ∙ ap is_some (square_at-bit g b s on)
      | inr p ↦ h x (eqb-true _ _ p)
    ]

pub IsWord-empty : (g : Geometry) → IsBoard g → IsWord g 0
IsWord-empty g b = record {
  board = b;
  only = λ x e. absurd (zero_one (ap (λ n. eqb n 1) (sym (bit_at-zero x)) ∙ eq-eqb _ _ e));
}

pub squares_of-empty : (g : Geometry) → squares_of g 0 ≡ set.empty
squares_of-empty g = squares_of-is g 0 set.empty
    (λ q e. absurd (true≢false (sym e ∙ set.contains-empty nat_cmp q)))
    (λ q on. set.contains-empty nat_cmp q ∙ sym (ap (λ n. eqb n 1) (bit_at-zero (bit g q))))

pub squares_of-with : (g : Geometry) → IsBoard g → (w s : ℕ) → OnBoard g s
    → squares_of g (bit_or w (1 * 2 ^ bit g s % 2 ^ 64)) ≡ set.insert (squares_of g w) s
squares_of-with g b w s on = squares_of-is g _ (set.insert (squares_of g w) s)
    (λ q e. elim (or_cases _ _ (sym (contains-insert (squares_of g w) s q) ∙ e)) [
      | inl p ↦ subst (OnBoard g) (sym (eqb-true q s p)) on
      | inr p ↦ squares_of-within g w q p
    ])
    (λ q to. contains-insert (squares_of g w) s q ∙ (ap (λ c. eqb q s || c) (contains-here g w q to)
    ∙ (ap (λ c. c || is_set w (bit g q)) (same_place g b q s to on)
    ∙ sym (is_set-with w (bit g s) (bit g q) (bit-small g b s on)))))

pub squares_of-or : (g : Geometry) (a b : ℕ) → squares_of g (bit_or a b) ≡ set.union (squares_of g a) (squares_of g b)
squares_of-or g a b = squares_of-is g _ (set.union (squares_of g a) (squares_of g b))
    (λ q e. elim (or_cases _ _ (sym (set.contains-union nat_cmp_total (squares_of g a) (squares_of g b) q) ∙ e))
    [ inl p ↦ squares_of-within g a q p | inr p ↦ squares_of-within g b q p ])
    (λ q on. set.contains-union nat_cmp_total (squares_of g a) (squares_of g b) q
    ∙ (ap (λ c. c || set.contains (squares_of g b) q) (contains-here g a q on)
    ∙ (ap (λ c. is_set a (bit g q) || c) (contains-here g b q on) ∙ sym (is_set-or a b (bit g q)))))

-- the word behind a set that a word stands for
pub word_behind : (g : Geometry) (w : ℕ) (v : Squares) → IsWord g w → squares_of g w ≡ v → word_of g v ≡ w
word_behind g w v h e = ap (word_of g) (sym e) ∙ word_of-squares_of g h.board w h.only

pub same_tests : (a b : Bool) → (a ≡ true → b ≡ true) → (b ≡ true → a ≡ true) → a ≡ b
same_tests true b to from = sym (to refl)
same_tests false true to from = from refl
same_tests false false to from = refl

pub same_words : (g : Geometry) (a b : ℕ) (v w : Squares) → IsWord g a → IsWord g b → squares_of g a ≡ v
    → squares_of g b ≡ w → eqb a b ≡ same_members v w
same_words g a b v w h k e f = same_tests (eqb a b) (same_members v w)
    (λ t. (same_members-is v w).1 (sym e ∙ (ap (squares_of g) (eqb-true a b t) ∙ f)))
    (λ t. eq-eqb a b (sym (word_behind g a v h e) ∙ (ap (word_of g) ((same_members-is v w).0 t)
    ∙ word_behind g b w k f)))

pub OnlySquares-not : (g : Geometry) (a b : ℕ) → OnlySquares g a → OnlySquares g (bit_and a (bit_not w64 b))
OnlySquares-not g a b h = OnlySquares-and_left g a (bit_not w64 b) h

pub squares_of-and : (g : Geometry) (a b : ℕ) → squares_of g (bit_and a b)
    ≡ set.intersection (squares_of g a) (squares_of g b)
squares_of-and g a b = squares_of-is g _ (set.intersection (squares_of g a) (squares_of g b))
    (λ q e. squares_of-within g a q
    (and_parts _ _ (sym (set.contains-intersection nat_cmp_total (squares_of g a) (squares_of g b) q) ∙ e)).0)
    (λ q on. set.contains-intersection nat_cmp_total (squares_of g a) (squares_of g b) q
    ∙ (ap (λ c. c && set.contains (squares_of g b) q) (contains-here g a q on)
    ∙ (ap (λ c. is_set a (bit g q) && c) (contains-here g b q on) ∙ sym (is_set-and a b (bit g q)))))

pub squares_of-minus : (g : Geometry) → IsBoard g → (a b : ℕ) → b < 2 ^ 64 → squares_of g (bit_and a (bit_not w64 b))
    ≡ set.difference (squares_of g a) (squares_of g b)
squares_of-minus g board a b fits = squares_of-is g _ (set.difference (squares_of g a) (squares_of g b))
    (λ q e. squares_of-within g a q
    (and_parts _ _ (sym (set.contains-difference nat_cmp_total (squares_of g a) (squares_of g b) q) ∙ e)).0)
    (λ q on. set.contains-difference nat_cmp_total (squares_of g a) (squares_of g b) q
    ∙ (ap (λ c. c && not (set.contains (squares_of g b) q)) (contains-here g a q on)
    ∙ (ap (λ c. is_set a (bit g q) && not c) (contains-here g b q on)
    ∙ sym (is_set-minus a b (bit g q) fits (bit-small g board q on)))))

pub squares_of-without : (g : Geometry) → IsBoard g → (w s : ℕ) → OnBoard g s
    → squares_of g (bit_and w (bit_not w64 (1 * 2 ^ bit g s % 2 ^ 64))) ≡ set.remove (squares_of g w) s
squares_of-without g b w s on = squares_of-is g _ (set.remove (squares_of g w) s)
    (λ q e. squares_of-within g w q (and_parts _ _ (sym (contains-remove (squares_of g w) s q) ∙ e)).1)
    (λ q to. contains-remove (squares_of g w) s q ∙ (ap (λ c. not (eqb q s) && c) (contains-here g w q to)
    ∙ (ap (λ c. not c && is_set w (bit g q)) (same_place g b q s to on)
    ∙ sym (is_set-without w (bit g s) (bit g q) (bit-small g b s on) (bit-small g b q to)))))

-- ---- the members of a word
pub members-are : (g : Geometry) (w : ℕ) (v : Squares) → squares_of g w ≡ v → (s : ℕ) → (set.contains v s ≡ true)
    ↔ (OnBoard g s × (is_set w (bit g s) ≡ true))
members-are g w v e s =
    let is = ap (λ u. set.contains u s) e in (
      (λ h. let on = squares_of-within g w s (is ∙ h) in (on, sym (contains-here g w s on) ∙ (is ∙ h))),
      (λ h. sym is ∙ (contains-here g w s h.0 ∙ h.1)),
    )

-- ---- the least member
the_square : (c : Bool) (n : ℕ) → is_some (cond c (Some n) None) ≡ true → cond c (Some n) None ≡ Some n
the_square true n e = refl
the_square false n e = absurd (true≢false (sym e))

pub place-is : (g : Geometry) → IsBoard g → (w x : ℕ) → OnlySquares g w → bit_at w x ≡ 1 → OnBoard g (square_of g x)
    × (bit g (square_of g x) ≡ x)
place-is g b w x only e = bit-square_at g b x (square_of g x) (the_square _ _ (only x e))

quotients : (a b k : ℕ) → 0 < k → a ≤ b → a / k ≤ b / k
quotients a b k pos h = le-div (a / k) b k pos (omega (arith, div-mul-le_self a k))

pub bit-below : (g : Geometry) → IsBoard g → (s t : ℕ) → s ≤ t → bit g s ≤ bit g t
bit-below g b s t h = let pos : 0 < g.rows = omega (arith, b.even, b.low) in
    omega (arith, quotients (s - 1) (t - 1) g.rows pos (omega arith))

pub bit-ascends : (g : Geometry) → IsBoard g → (s t : ℕ) → OnBoard g t → bit g s ≤ bit g t → s ≤ t
bit-ascends g b s t to h = elim (cases_lt t s) [
  | inl less ↦ let pos : 0 < g.rows = omega (arith, b.even, b.low) in
      absurd (omega (arith, quotients (t - 1) (s - 1) g.rows pos (omega arith)))
  | inr done ↦ done
]

pub least_member : (g : Geometry) → IsBoard g → (w x : ℕ) → OnlySquares g w → bit_at w x ≡ 1
    → ((i : ℕ) → i < x → bit_at w i ≡ 0) → (t : ℕ) → set.contains (squares_of g w) t ≡ true → square_of g x ≤ t
least_member g b w x only e below t has =
    let to = squares_of-within g w t has in
    let is = place-is g b w x only e in
    bit-ascends g b (square_of g x) t to (elim (cases_lt (bit g t) x) [
      | inl less ↦ absurd (zero_one (ap (λ n. eqb n 1) (sym (below (bit g t) less))
          ∙ (sym (contains-here g w t to) ∙ has)))
      | inr high ↦ omega (arith, is.1)
    ])

-- a word without a member is 0
pub word-zero : (g : Geometry) → IsBoard g → (w : ℕ) → OnlySquares g w → squares_of g w ≡ set.empty → w ≡ 0
word-zero g b w only e = sym (word_of-squares_of g b w only) ∙ (ap (word_of g) (e ∙ sym (squares_of-empty g))
    ∙ word_of-squares_of g b 0 (IsWord-empty g b).only)

-- ---- the place of a square's bit
some_is : (c : Bool) (n s : ℕ) → cond c (Some n) None ≡ Some s → n ≡ s
some_is true n s e = some_injective e
some_is false n s e = cc

square_of-bit : (g : Geometry) → IsBoard g → (s : ℕ) → OnBoard g s → square_of g (bit g s) ≡ s
square_of-bit g b s on = some_is _ _ s (square_at-bit g b s on)

pub IsPlace-bit : (g : Geometry) → IsBoard g → (s x : ℕ) → OnBoard g s → x ≡ bit g s → IsPlace g x
IsPlace-bit g b s x on e =
    let same = square_of-bit g b s on in
    subst (IsPlace g) (sym e) (record {
      on = subst (OnBoard g) (sym same) on;
      back = ap (bit g) same;
      small =
          bit-small g b s on;
    })

pub square_behind : (g : Geometry) → IsBoard g → (s x : ℕ) → OnBoard g s → x ≡ bit g s → square_of g x ≡ s
square_behind g b s x on e = ap (square_of g) e ∙ square_of-bit g b s on

pub same_places : (g : Geometry) (p q n m : ℕ) → IsPlace g p → IsPlace g q → square_of g p ≡ n → square_of g q ≡ m
    → eqb p q ≡ eqb n m
same_places g p q n m h k i j = same_tests (eqb p q) (eqb n m)
    (λ e. eq-eqb n m (sym i ∙ (ap (square_of g) (eqb-true p q e) ∙ j)))
    (λ e. eq-eqb p q (sym h.back ∙ (ap (bit g) (i ∙ (eqb-true n m e ∙ sym j)) ∙ k.back)))

-- the places of squares stand in the order of the squares
pub same_order : (g : Geometry) → IsBoard g → (p q n m : ℕ) → IsPlace g p → IsPlace g q → square_of g p ≡ n
    → square_of g q ≡ m → nat_cmp p q ≡ nat_cmp n m
same_order g b p q n m h k i j =
    let first = ap (bit g) (sym i) ∙ h.back in
    let second = ap (bit g) (sym j) ∙ k.back in
    let less : ltb p q ≡ ltb n m = same_tests (ltb p q) (ltb n m)
    (λ e. lt-ltb n m (elim (cases_lt n m) [
      | inl low ↦ low
      | inr high ↦ absurd (omega (arith, ltb-true p q e, bit-below g b m n high))
    ]))
    (λ e. lt-ltb p q (elim (cases_lt p q) [
      | inl low ↦ low
      | inr high ↦ absurd (omega (arith, ltb-true n m e, bit-ascends g b m n (subst (OnBoard g) i h.on) (omega arith)))
    ])) in
    rw (less, same_places g p q n m h k i j) refl

-- ---- a step is the first square of a shifted set of one
step_none : (g : Geometry) (s : ℕ) (d : Dir) (o : Option ℕ) → step g s d ≡ o → ((t : ℕ) → step g s d ≡ Some t → ⊥)
    → o ≡ None
step_none g s d None e off = refl
step_none g s d (Some t) e off = absurd (off t e)

abbrev one_square : ℕ → Squares
one_square s = set.insert set.empty s

pub step-first : (g : Geometry) (s : ℕ) (d : Dir) (v : Squares) (o : Option ℕ) → ((t : ℕ) → (set.contains v t ≡ true)
    ↔ ((q : ℕ) × ((set.contains (one_square s) q ≡ true) × (step g q d ≡ Some t))))
    → IsNone o ↔ (v ≡ set.empty) → IfSome o (λ t. set.contains v t ≡ true) → o ≡ step g s d
step-first g s d v None steps none member = sym (step_none g s d (step g s d) refl (λ t e.
    true≢false (sym ((steps t).1 (s, (contains-insert set.empty s s ∙ rw (eq-eqb s s refl) refl, e)))
    ∙ (ap (λ u. set.contains u t) (none.0 refl) ∙ set.contains-empty nat_cmp t))))
step-first g s d v (Some t) steps none member =
    let q = (steps t).0 member in
    let same : q.0 ≡ s = elim (or_cases _ _ (sym (contains-insert set.empty s q.0) ∙ q.1.0)) [
      | inl e ↦ eqb-true q.0 s e
      | inr e ↦ absurd (true≢false (sym e ∙ set.contains-empty nat_cmp q.0))
    ] in
    sym (ap (λ x. step g x d) (sym same) ∙ q.1.1)
