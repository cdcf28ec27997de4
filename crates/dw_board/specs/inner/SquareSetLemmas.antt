-- Words and sets: a set is the set of its word, and a word the word of its set.
use Rattle.std.proofs.Common.{◌≡◌, ℕ, suc, zero, ◌+◌, ◌/◌, ◌^◌, ◌≤◌, ◌<◌, ◌≢◌, Bool, true, false, cond, ◌&&◌, ◌||◌, eqb}
use Rattle.std.proofs.Common.{leb, Option, Some, None, is_some, refl, sym, ap, ◌∙◌, subst, arith, ◌⊎◌, inl, inr, ◌↔◌}
use Rattle.std.proofs.Common.{bit_or, max}
use Rattle.std.specs.Ordering.{nat_cmp, eq_by_cmp}
use Rattle.std.specs.FinSet as set
use Rattle.std.specs.List.{list_any}
use Rattle.std.specs.Cmp.Lexicographic.{pointwise, bytes_decides}
use Rattle.std.specs.Cmp.{nat_cmp_total, unsigned_tied}
use Rattle.std.proofs.lemmas.Bool.{cases_lt, cases_eq, leb-true, eqb-true, le-leb, eq-eqb, ne_eqb, true≢false, or_cases}
use Rattle.std.proofs.lemmas.Bool.{agree_below, agree_below_at, or_left, or_right}
use Rattle.std.proofs.lemmas.Nat.Bits.{bit_at_or, bit_at-zero, bit_at-pow_same, bit_at-pow_other, bit_at-lt}
use Rattle.std.proofs.lemmas.Nat.Bits.{same_from_bits, bit_at_above}
use Rattle.std.proofs.lemmas.Bool.Decides.{nat_tests}
use Rattle.dw_board.specs.Geometry.{Geometry, IsBoard, squares, OnBoard, bit, Squares, is_square}
use Rattle.dw_board.specs.SquareSet.{is_set, square_at, members_below, squares_of, word_below, word_of, OnlySquares}
use Rattle.dw_board.specs.SquareSet.{WholeBoard}
use Rattle.dw_board.specs.inner.GeometryLemmas.{square_at-bit, bit-square_at}

pub contains-insert : (v : Squares) (k q : ℕ) → set.contains (set.insert v k) q ≡ (eqb q k || set.contains v q)
contains-insert v k q = set.contains-insert nat_cmp_total v k q ∙ ap (λ b. b || set.contains v q) (unsigned_tied q k)

pub and-false : (b : Bool) → (b && false) ≡ false
and-false true = refl
and-false false = refl

pub and-true : (b : Bool) → (b && true) ≡ b
and-true true = refl
and-true false = refl

-- one more number in a range
pub in_range_here : (n : ℕ) → (leb 1 (suc n) && leb (suc n) (suc n)) ≡ true
in_range_here n = let h : leb 1 (suc n) ≡ true = le-leb _ _ (omega arith) in
    let k : leb (suc n) (suc n) ≡ true = le-leb _ _ (omega arith) in rw (h, k) refl

pub range_same : (q n : ℕ) → q ≢ suc n → leb q (suc n) ≡ leb q n
range_same q n ne = grind (arith, nat_tests)

pub none_in_empty : (q : ℕ) → (leb 1 q && leb q 0) ≡ false
none_in_empty q = grind (arith, nat_tests)

pub member_more : (b t : Bool) (v : Squares) (q n : ℕ) → set.contains v q ≡ ((leb 1 q && leb q n) && t)
    → (q ≡ suc n → t ≡ b)
    → set.contains (cond b (set.insert v (suc n)) v) q ≡ ((leb 1 q && leb q (suc n)) && t)
member_more true t v q n h is = contains-insert v (suc n) q ∙ (elim (cases_eq q (suc n)) [
  | inl e ↦ rw (eq-eqb q (suc n) e, is e)
      (sym (and-true _ ∙ subst (λ x. (leb 1 x && leb x (suc n)) ≡ true) (sym e) (in_range_here n)))
  | inr ne ↦ rw (ne_eqb q (suc n) ne, range_same q n ne) h
])
member_more false t v q n h is = elim (cases_eq q (suc n)) [
  | inl e ↦ h ∙ (ap (λ b. (leb 1 q && leb q n) && b) (is e) ∙ and-false _)
      ∙ sym (ap (λ b. (leb 1 q && leb q (suc n)) && b) (is e) ∙ and-false _)
  | inr ne ↦ rw (range_same q n ne) h
]

pub contains-members_below : (g : Geometry) (w n q : ℕ)
    → set.contains (members_below g w n) q ≡ ((leb 1 q && leb q n) && is_set w (bit g q))
unfolding members_below
contains-members_below g w zero q = set.contains-empty nat_cmp q
    ∙ sym (ap (λ b. b && is_set w (bit g q)) (none_in_empty q))
contains-members_below g w (suc n) q =
    member_more (is_set w (bit g (suc n))) (is_set w (bit g q)) (members_below g w n) q n
    (contains-members_below g w n q) (λ e. ap (λ x. is_set w (bit g x)) e)

pub contains-squares_of : (g : Geometry) (w q : ℕ)
    → set.contains (squares_of g w) q ≡ (is_square g q && is_set w (bit g q))
unfolding squares_of
contains-squares_of g w q = contains-members_below g w (squares g) q

pub is_square-true : (g : Geometry) (q : ℕ) → OnBoard g q → is_square g q ≡ true
is_square-true g q on = let h : leb 1 q ≡ true = le-leb _ _ on.0 in
    let k : leb q (squares g) ≡ true = le-leb _ _ on.1 in rw (h, k) refl

-- ---- bits of words
pub below_two : (n : ℕ) → n < 2 → (n ≡ 0) ⊎ (n ≡ 1)
below_two n h = grind arith

pub max_bits : (a b : ℕ) → a < 2 → b < 2 → eqb (max a b) 1 ≡ (eqb a 1 || eqb b 1)
max_bits a b h k = elim (below_two a h) [
  | inl e ↦
      elim (below_two b k) [ inl f ↦ rw (e, f) refl | inr f ↦ rw (e, f) refl ]
  | inr e ↦
      elim (below_two b k) [ inl f ↦ rw (e, f) refl | inr f ↦ rw (e, f) refl ]
]

pub is_set-or : (a b x : ℕ) → is_set (bit_or a b) x ≡ (is_set a x || is_set b x)
is_set-or a b x = ap (λ n. eqb n 1) (bit_at_or a b x) ∙ max_bits _ _ (bit_at-lt a x) (bit_at-lt b x)

pub first_true : (b c : Bool) (n s : ℕ) → cond (b && c) (Some n) None ≡ Some s → b ≡ true
first_true true c n s e = refl
first_true false c n s e = cc

pub bit-within : (g : Geometry) → IsBoard g → (s : ℕ) → OnBoard g s → bit g s < squares g + g.rows / 2
bit-within g b s on = let h : bit g s + 1 ≤ squares g + g.rows / 2 =
    leb-true _ _ (first_true _ _ _ s (square_at-bit g b s on)) in omega arith

pub bit-small : (g : Geometry) → IsBoard g → (s : ℕ) → OnBoard g s → bit g s < 64
bit-small g b s on = let h : bit g s < squares g + g.rows / 2 = bit-within g b s on in omega arith

pub some_square : (o : Option ℕ) → is_some o ≡ true → (s : ℕ) × (o ≡ Some s)
some_square None e = absurd (true≢false (sym e))
some_square (Some s) e = (s, refl)

pub square_of_bit : (g : Geometry) → IsBoard g → (w x : ℕ) → OnlySquares g w → is_set w x ≡ true
    → (s : ℕ) × (OnBoard g s × (bit g s ≡ x))
square_of_bit g b w x only e = let s = some_square (square_at g x) (only x (eqb-true _ _ e)) in
    (s.0, bit-square_at g b x s.0 s.1)

pub contains-here : (g : Geometry) (w s : ℕ) → OnBoard g s → set.contains (squares_of g w) s ≡ is_set w (bit g s)
contains-here g w s on = contains-squares_of g w s ∙ ap (λ b. b && is_set w (bit g s)) (is_square-true g s on)

pub one_bit : (b : Bool) (k x : ℕ) → is_set (cond b (2 ^ k) 0) x ≡ true → (b ≡ true) × (k ≡ x)
one_bit true k x e = elim (cases_eq x k) [
  | inl is ↦ (refl, sym is)
  | inr ne ↦ absurd (true≢false (sym e ∙ ap (λ n. eqb n 1) (bit_at-pow_other k x ne)))
]
one_bit false k x e = absurd (true≢false (sym e ∙ ap (λ n. eqb n 1) (bit_at-zero x)))

pub here_bit : (b : Bool) (k : ℕ) → b ≡ true → is_set (cond b (2 ^ k) 0) k ≡ true
here_bit true k e = ap (λ n. eqb n 1) (bit_at-pow_same k)
here_bit false k e = absurd (true≢false (sym e))

pub zero_one : eqb 0 1 ≡ true → ⊥
zero_one e = true≢false (sym e)

pub same_bit : (a b : ℕ) → a < 2 → b < 2 → (eqb a 1 ≡ true → eqb b 1 ≡ true) → (eqb b 1 ≡ true → eqb a 1 ≡ true) → a ≡ b
same_bit a b h k to from = elim (below_two a h) [
  | inl e ↦ elim (below_two b k) [
    | inl f ↦ e ∙ sym f
    | inr f ↦ e ∙ absurd (zero_one (subst (λ n. eqb n 1 ≡ true) e (from (eq-eqb b 1 f))))
  ]
  | inr e ↦ elim (below_two b k) [
    | inl f ↦ e ∙ absurd (zero_one (subst (λ n. eqb n 1 ≡ true) f (to (eq-eqb a 1 e))))
    | inr f ↦ e ∙ sym f
  ]
]

-- ---- a word from its squares
pub word_of-to : (g : Geometry) (v : Squares) (n x : ℕ) → is_set (word_below g v n) x ≡ true
    → (s : ℕ) × (((1 ≤ s) × (s ≤ n)) × ((set.contains v s ≡ true) × (bit g s ≡ x)))
unfolding word_below
word_of-to g v zero x e = absurd (true≢false (sym e ∙ ap (λ n. eqb n 1) (bit_at-zero x)))
word_of-to g v (suc n) x e = elim (or_cases _ _ (sym (is_set-or _ (word_below g v n) x) ∙ e)) [
  | inl p ↦ let q = one_bit (set.contains v (suc n)) (bit g (suc n)) x p in (suc n, ((omega arith, omega arith), q))
  | inr p ↦ let r = word_of-to g v n x p in (r.0, ((r.1.0.0, let h = r.1.0.1 in omega arith), r.1.1))
]

pub word_of-from : (g : Geometry) (v : Squares) (n s : ℕ) → 1 ≤ s → s ≤ n → set.contains v s ≡ true
    → is_set (word_below g v n) (bit g s) ≡ true
unfolding word_below
word_of-from g v zero s low high e = absurd (omega arith)
word_of-from g v (suc n) s low high e = is_set-or _ (word_below g v n) (bit g s) ∙ (elim (cases_eq s (suc n)) [
  | inl is ↦ or_left _ _ (subst (λ t. is_set (cond (set.contains v t) (2 ^ bit g t) 0) (bit g s) ≡ true) is
      (here_bit (set.contains v s) (bit g s) e))
  | inr ne ↦ or_right _ _ (word_of-from g v n s low (omega arith) e)
])

pub word_of-squares_of : (g : Geometry) → IsBoard g → (w : ℕ) → OnlySquares g w → word_of g (squares_of g w) ≡ w
unfolding word_of
word_of-squares_of g b w only = same_from_bits _ _ (λ x. same_bit _ _ (bit_at-lt _ x) (bit_at-lt w x)
    (λ e. let r = word_of-to g (squares_of g w) (squares g) x e in
    ap (is_set w) (sym r.1.1.1) ∙ (sym (contains-here g w r.0 r.1.0) ∙ r.1.1.0))
    (λ e. let s = square_of_bit g b w x only e in
    subst (λ y. is_set (word_below g (squares_of g w) (squares g)) y ≡ true) s.1.1
    (word_of-from g (squares_of g w) (squares g) s.0 s.1.0.0 s.1.0.1
    (contains-here g w s.0 s.1.0 ∙ (ap (is_set w) s.1.1 ∙ e)))))

-- ---- a word of all squares, by a table
pub whole_board : (g : Geometry) → IsBoard g → (m : ℕ) → m < 2 ^ 64
    → agree_below (is_set m) (λ x. is_some (square_at g x)) 64 ≡ true → WholeBoard g m
whole_board g b m fits table = record {
  only = λ x e. elim (cases_lt x 64) [
    | inl low ↦ sym (agree_below_at (is_set m) (λ x. is_some (square_at g x)) 64 x table low) ∙ eq-eqb _ _ e
    | inr high ↦ absurd (zero_one (ap (λ n. eqb n 1) (sym (bit_at_above m 64 x fits high)) ∙ eq-eqb _ _ e))
  ];
  all = λ s on. agree_below_at (is_set m) (λ x. is_some (square_at g x)) 64 (bit g s) table (bit-small g b s on)
      ∙ ap is_some (square_at-bit g b s on);
}

-- ---- equality of sets, by their members
abbrev pub same_members : Squares → Squares → Bool
same_members v w = pointwise eqb (set.items v) (set.items w)

pub same_members-is : (v w : Squares) → (same_members v w ≡ true) ↔ (v ≡ w)
same_members-is v w = (
  (λ e. let i = (bytes_decides (set.items v) (set.items w)).0 e in
      set.same_set nat_cmp_total set.nat_cmp-IsAntisymmetric v w
      (λ q. set.contains-items v q ∙ (ap (list_any (eq_by_cmp nat_cmp q)) i ∙ sym (set.contains-items w q)))),
  (λ e. (bytes_decides (set.items v) (set.items w)).1 (ap set.items e)),
)
