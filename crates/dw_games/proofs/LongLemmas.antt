-- A text that is too long names no move and is no result.
use Rattle.std.proofs.Common.{◌≡◌, ℕ, suc, ◌+◌, ◌*◌, ◌<◌, ◌≤◌, true, false, List, [], ◌∷◌, ◌++◌, length, take, drop}
use Rattle.std.proofs.Common.{get_or, refl, sym, ap, ◌∙◌, arith, length-append, append-nil, inl, inr}
use Rattle.std.proofs.Math.Seq.{take-suc}
use Rattle.std.proofs.lemmas.Bool.{cases_Bool, eqb-true}
use Rattle.std.proofs.lemmas.List.{take-append-drop}
use Rattle.std.specs.Prelude.{◌==◌}
use Rattle.dw_games.specs.Play.{is_leading, plain, plain_byte}
use Rattle.dw_board.specs.Geometry.{Geometry}
use Rattle.dw_notation.specs.MoveReading.{IsNumber, AreCrossed, single, more, Named, Names, by_dash, by_crosses}
use Rattle.dw_games.proofs.PlaceLemmas.{absent}

number_short : (g : Geometry) (text : List ℕ) (s : ℕ) → IsNumber g text s → length text ≤ 2
number_short g [] s h = omega arith
number_short g (d ∷ []) s h = omega arith
number_short g (d ∷ e ∷ []) s h = omega arith
number_short g (d ∷ e ∷ f ∷ text) s h = absent s h

crossed_short : (g : Geometry) (text squares : List ℕ) → AreCrossed g text squares
    → length text + 1 ≤ 3 * length squares
crossed_short g text [] h = elim h [ ]
crossed_short g text (s ∷ []) (single h) = let n = number_short g text s h in omega (arith, n)
crossed_short g text (s ∷ squares) (more front cross rest h is others) =
    let n = number_short g front s h in
    let m = crossed_short g rest squares others in
    omega (arith, n, m, length-append front (cross ∷ rest))

names_short : (g : Geometry) (text : List ℕ) (named : Named) → Names g text named → length text ≤ 62
names_short g text named (by_dash {from = from} {to = to} front back h k) =
    let n = number_short g front from h in
    let m = number_short g back to k in
    omega (arith, n, m, length-append front (45 ∷ back))
names_short g text named (by_crosses {squares = squares} h low high) =
    let n = crossed_short g text squares h in omega (arith, n, high)

plain_append : (xs ys : List ℕ) → plain (xs ++ ys) ≡ plain xs ++ plain ys
plain_append [] ys = refl
plain_append (x ∷ xs) ys = elim (cases_Bool (is_leading x)) [
  | inl is ↦ rw is (plain_append xs ys)
  | inr other ↦ rw other (ap (λ z. plain_byte x ∷ z) (plain_append xs ys))
]

-- a byte goes on behind those at the front
pub plain_on : (text : List ℕ) (i : ℕ) → i < length text → is_leading (get_or text i 0) ≡ false
    → plain (take (suc i) text) ≡ plain (take i text) ++ plain_byte (get_or text i 0) ∷ []
plain_on text i inside other =
    let last : plain (get_or text i 0 ∷ []) ≡ plain_byte (get_or text i 0) ∷ [] = rw other refl in
    ap plain (take-suc text i 0 inside)
    ∙ (plain_append (take i text) (get_or text i 0 ∷ []) ∙ ap (λ z. plain (take i text) ++ z) last)

pub plain_same : (text : List ℕ) (i : ℕ) → i < length text → is_leading (get_or text i 0) ≡ true
    → plain (take (suc i) text) ≡ plain (take i text)
plain_same text i inside is =
    let last : plain (get_or text i 0 ∷ []) ≡ [] = rw is refl in
    ap plain (take-suc text i 0 inside)
    ∙ (plain_append (take i text) (get_or text i 0 ∷ []) ∙ (ap (λ z. plain (take i text) ++ z) last
    ∙ append-nil (plain (take i text))))

pub plain_full : (text : List ℕ) (i : ℕ) → i < length text → is_leading (get_or text i 0) ≡ false
    → (items : List ℕ) → items ≡ plain (take i text) → true ≡ (length items == 62) → 62 < length (plain text)
plain_full text i inside other items is full =
    let many : length items ≡ 62 = eqb-true (length items) 62 (sym full) in
    let front = plain_on text i inside other in
    let whole : plain text ≡ plain (take (suc i) text) ++ plain (drop (suc i) text) =
    ap plain (sym (take-append-drop (suc i) text)) ∙ plain_append (take (suc i) text) (drop (suc i) text) in
    omega (
      arith,
      many,
      ap length is,
      ap length front,
      length-append (plain (take i text)) (plain_byte (get_or text i 0) ∷ []),
      ap length whole,
      length-append (plain (take (suc i) text)) (plain (drop (suc i) text)),
    )

pub names_nothing : (g : Geometry) (text : List ℕ) (named : Named) → 62 < length text → Names g text named → ⊥
names_nothing g text named long h = let n = names_short g text named h in omega (arith, n, long)
