-- Lexicographic order.
use Rattle.std.proofs.Common.{◌≡◌, ℕ, ◌<◌, List, [], ◌∷◌, refl, sym, ◌∙◌, ◌⊎◌, inl, inr, arith, Bool, true, false}
use Rattle.std.proofs.Common.{subst}
use Rattle.std.proofs.Math.Dec.{ltb}
use Rattle.std.proofs.lemmas.Bool.{ltb-true, ltb-false}
use Rattle.dw_moves.specs.Order.{LexLess}

pub lex_irrefl : (xs : List ℕ) → LexLess xs xs → ⊥
lex_irrefl [] h = h
lex_irrefl (x ∷ xs) (inl h) = omega arith
lex_irrefl (x ∷ xs) (inr h) = lex_irrefl xs h.1

pub lex_trans : (xs ys zs : List ℕ) → LexLess xs ys → LexLess ys zs → LexLess xs zs
lex_trans [] [] zs h k = absurd h
lex_trans [] (y ∷ ys) [] h k = absurd k
lex_trans [] (y ∷ ys) (z ∷ zs) h k = tt
lex_trans (x ∷ xs) [] zs h k = absurd h
lex_trans (x ∷ xs) (y ∷ ys) [] h k = absurd k
lex_trans (x ∷ xs) (y ∷ ys) (z ∷ zs) (inl h) (inl k) = inl (omega arith)
lex_trans (x ∷ xs) (y ∷ ys) (z ∷ zs) (inl h) (inr k) = let e = k.0 in inl (omega arith)
lex_trans (x ∷ xs) (y ∷ ys) (z ∷ zs) (inr h) (inl k) = let e = h.0 in inl (omega arith)
lex_trans (x ∷ xs) (y ∷ ys) (z ∷ zs) (inr h) (inr k) = inr (h.0 ∙ k.0, lex_trans xs ys zs h.1 k.1)

pub lex_asym : (xs ys : List ℕ) → LexLess xs ys → LexLess ys xs → ⊥
lex_asym xs ys h k = lex_irrefl xs (lex_trans xs ys xs h k)

-- the three cases of two numbers, as a value that computes: its proofs are abstract
pub equal_by : (x y : ℕ) → ltb x y ≡ false → ltb y x ≡ false → x ≡ y
equal_by x y e f = omega (arith, ltb-false x y e, ltb-false y x f)

abbrev pub order_by : (x y : ℕ) (b c : Bool) → ltb x y ≡ b → ltb y x ≡ c → (x ≡ y) ⊎ ((x < y) ⊎ (y < x))
order_by x y true c e f = inr (inl (ltb-true x y e))
order_by x y false true e f = inr (inr (ltb-true y x f))
order_by x y false false e f = inl (equal_by x y e f)

abbrev pub order_cases : (x y : ℕ) → (x ≡ y) ⊎ ((x < y) ⊎ (y < x))
order_cases x y = order_by x y (ltb x y) (ltb y x) refl refl

pub cons_same : (x y : ℕ) (xs ys : List ℕ) → x ≡ y → xs ≡ ys → x ∷ xs ≡ y ∷ ys
cons_same x y xs ys e f = cc

abbrev pub lex_cases : (xs ys : List ℕ) → (xs ≡ ys) ⊎ (LexLess xs ys ⊎ LexLess ys xs)
lex_cases [] [] = inl refl
lex_cases [] (y ∷ ys) = inr (inl tt)
lex_cases (x ∷ xs) [] = inr (inr tt)
lex_cases (x ∷ xs) (y ∷ ys) = elim (order_cases x y) [
  | inl e ↦ elim (lex_cases xs ys) [
    | inl same ↦ inl (cons_same x y xs ys e same)
    | inr (inl l) ↦ inr (inl (inr (e, l)))
    | inr (inr g) ↦ inr (inr (inr (sym e, g)))
  ]
  | inr (inl l) ↦ inr (inl (inl l))
  | inr (inr g) ↦ inr (inr (inl g))
]

-- nothing in a list that isn't below a bound is below what isn't above it
pub not_less : (x y z : List ℕ) → (LexLess x y → ⊥) → (LexLess y z → ⊥) → LexLess x z → ⊥
not_less x y z h k l = elim (lex_cases x y) [
  | inl e ↦ k (subst (λ w. LexLess w z) e l)
  | inr (inl q) ↦ h q
  | inr (inr q) ↦ k (lex_trans y x z q l)
]
