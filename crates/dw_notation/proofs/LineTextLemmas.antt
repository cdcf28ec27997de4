-- Lemmas on the texts of lines.
use Rattle.std.proofs.Common.{◌≡◌, ◌≤◌, ◌<◌, ◌+◌, ◌%◌, ◌/◌, ◌*◌, ◌==◌, ℕ, zero, suc, List, [], ◌∷◌, ◌++◌, length}
use Rattle.std.proofs.Common.{length-append, append_assoc, append-nil, get_or, drop, map, refl, sym, ap, ◌∙◌, subst}
use Rattle.std.proofs.Common.{arith, inl, inr, decimal, codes, cond, Bool, true, false}
use Rattle.std.proofs.lemmas.Bool.{eqb-true, eq-eqb, true≢false}
use Rattle.std.proofs.lemmas.Fmt.{length-decimal-le}
use Rattle.std.proofs.lemmas.List.{drop_more}
use Rattle.std.specs.List.{join_with_byte}
use Rattle.dw_board.specs.Geometry.{Geometry}
use Rattle.dw_board.specs.Placement.{Placement}
use Rattle.dw_moves.specs.Moves.{Move, Legal}
use Rattle.dw_board.specs.Lists.{Member}
use Rattle.dw_moves.specs.Order.{Listed, AreListed}
use Rattle.dw_notation.specs.Text.{IsMoveText, numbered, text_among}
use Rattle.dw_notation.specs.inner.LineWords.{spaced, onto, HasStep}

pub joined : (w : List ℕ) (words : List (List ℕ)) → join_with_byte 32 (w ∷ words) ≡ w ++ spaced words
joined w [] = sym (append-nil w)
joined w (v ∷ words) = ap (λ l. w ++ (32 ∷ l)) (joined v words)

spaced_more : (xs rest : List (List ℕ)) → spaced (xs ++ rest) ≡ spaced xs ++ spaced rest
spaced_more [] rest = refl
spaced_more (x ∷ xs) rest = ap (λ l. 32 ∷ (x ++ l)) (spaced_more xs rest)
    ∙ ap (λ l. 32 ∷ l) (sym (append_assoc x (spaced xs) (spaced rest)))

pub onto_more : (ply : ℕ) (x : List ℕ) (xs rest : List (List ℕ)) → onto ply ((x ∷ xs) ++ rest) ≡ onto ply (x ∷ xs)
    ++ spaced rest
onto_more zero x xs rest = joined x (xs ++ rest) ∙ (ap (λ l. x ++ l) (spaced_more xs rest)
    ∙ (sym (append_assoc x (spaced xs) (spaced rest)) ∙ ap (λ l. l ++ spaced rest) (sym (joined x xs))))
onto_more (suc ply) x xs rest = spaced_more (x ∷ xs) rest

pub onto_later : (ply : ℕ) (words : List (List ℕ)) → 0 < ply → onto ply words ≡ spaced words
onto_later zero words some = absurd (omega (arith, some))
onto_later (suc ply) words some = refl

pub onto_none : (ply : ℕ) → onto ply [] ≡ []
onto_none zero = refl
onto_none (suc ply) = refl

number_onto : (ply : ℕ) (number word : List ℕ) (attacks : Bool) (rest : List (List ℕ))
    → onto ply (cond attacks (number ∷ (word ∷ rest)) (word ∷ rest))
    ≡ onto ply (cond attacks (number ∷ (word ∷ [])) (word ∷ [])) ++ spaced rest
number_onto ply number word true rest = onto_more ply number (word ∷ []) rest
number_onto ply number word false rest = onto_more ply word [] rest

-- a word more, and what follows
pub numbered_onto : (ply : ℕ) (word : List ℕ) (rest : List (List ℕ)) → onto ply (numbered ply (word ∷ rest))
    ≡ onto ply (numbered ply (word ∷ [])) ++ spaced rest
numbered_onto ply word rest = number_onto ply (decimal (ply / 2 + 1) ++ codes ".") word (ply % 2 == 0) rest

number_short : (ply : ℕ) → ply < 39 → length (decimal (ply / 2 + 1) ++ codes ".") ≤ 3
number_short ply few =
    let low = length-decimal-le 2 (ply / 2 + 1) (omega arith) (omega arith) (omega arith) in
    omega (arith, length-append (decimal (ply / 2 + 1)) (codes "."), low)

spaced_short : (number word : List ℕ) → length number ≤ 3 → length word ≤ 62
    → (length (spaced (number ∷ word ∷ [])) ≤ 67) × (length (spaced (word ∷ [])) ≤ 63)
spaced_short number word a c = (
  omega (arith, length-append number (32 ∷ (word ++ [])), length-append word [], a, c),
  omega (arith, length-append word [], c),
)

joined_short : (number word : List ℕ) → length number ≤ 3 → length word ≤ 62
    → length (join_with_byte 32 (number ∷ word ∷ [])) ≤ 67
joined_short number word a c = omega (arith, length-append number (32 ∷ word), a, c)

onto_short : (ply k : ℕ) (number word : List ℕ) (attacks : Bool) → (k % 2 == 0) ≡ attacks → k ≡ ply → length number ≤ 3
    → length word ≤ 62
    → length (onto ply (cond attacks (number ∷ (word ∷ [])) (word ∷ []))) + (65 * k + 2 * (k % 2))
    ≤ 65 * (k + 1) + 2 * ((k + 1) % 2)
onto_short zero k number word true even same a c = let e = eqb-true (k % 2) 0 even in
    omega (arith, same, e, joined_short number word a c)
onto_short zero k number word false odd same a c = omega (arith, same, c)
onto_short (suc ply) k number word true even same a c = let e = eqb-true (k % 2) 0 even in
    omega (arith, e, (spaced_short number word a c).0)
onto_short (suc ply) k number word false odd same a c = let e : (k % 2 ≡ 0)
    → ⊥ = λ z. true≢false (sym (eq-eqb (k % 2) 0 z) ∙ odd) in omega (arith, e, (spaced_short number word a c).1)

-- what a ply adds fits
pub numbered_short : (ply : ℕ) (word : List ℕ) → ply < 39 → length word ≤ 62
    → length (onto ply (numbered ply (word ∷ []))) + (65 * ply + 2 * (ply % 2)) ≤ 65 * (ply + 1) + 2 * ((ply + 1) % 2)
numbered_short ply word few low = onto_short ply ply (decimal (ply / 2 + 1) ++ codes ".") word (ply % 2 == 0) refl refl
    (number_short ply few) low

-- the places before one whose moves are others
pub record OthersTo (list : List Listed) (m : Move) (place : ℕ) : Type 0 where
  pub later : (l : Listed) × Member l (drop place list) × (l.step ≡ m)

pub others_within : (list : List Listed) (m : Move) (place : ℕ) → OthersTo list m place → place < length list
others_within [] m place h = absurd (none place h.later.0 h.later.1) where
  none : (place : ℕ) (l : Listed) → Member l (drop place []) → ⊥
  none zero l m = m
  none (suc place) l m = m
others_within (x ∷ list) m zero h = omega arith
others_within (x ∷ list) m (suc place) h = let low = others_within list m place (record { later = h.later }) in
    omega (arith, low)

pub others_more : (list : List Listed) (m : Move) (place : ℕ) (l : Listed) → OthersTo list m place
    → l ≡ get_or list place l → (l.step ≡ m → ⊥) → OthersTo list m (place + 1)
others_more list m place l h is other =
    let low = others_within list m place h in
    let f = h.later in
    elim (subst (Member f.0) (drop_more list place l low) f.1) [
      | inl e ↦ absurd (other (ap (λ (z : Listed). z.step) (is ∙ sym e) ∙ f.2))
      | inr more ↦ record { later = (f.0, more, f.2) }
    ]

member_at : (list : List Listed) (i : ℕ) (d : Listed) → i < length list → Member (get_or list i d) list
member_at [] i d low = absurd (omega (arith, low))
member_at (x ∷ list) zero d low = inl refl
member_at (x ∷ list) (suc i) d low = inr (member_at list i d (omega (arith, low)))

-- a legal move is one of the list of all
pub legal_has_step : (g : Geometry) (p : Placement) (m : Move) (list : List Listed) → AreListed g p list → Legal g p m
    → HasStep list m
legal_has_step g p m list all legal = back list ((all.in_order.exactly m).1 legal) where
  back : (list : List Listed) → Member m (map (λ (l : Listed). l.step) list) → HasStep list m
  back [] h = absurd h
  back (l ∷ list) (inl e) = (l, inl refl, sym e)
  back (l ∷ list) (inr h) = let f = back list h in (f.0, inr f.1, f.2)

-- a move of the list of all legal moves is written so
pub text_at : (g : Geometry) (p : Placement) (m : Move) (list : List Listed) (place : ℕ) (text : List ℕ) (d : Listed)
    → AreListed g p list → place < length list → (get_or list place d).step ≡ m
    → text ≡ text_among list (get_or list place d) → IsMoveText g p m text
text_at g p m list place text d all low same is = record {
  list = list;
  all = all;
  item = get_or list place d;
  here =
      member_at list place d low;
  same = same;
  is = is;
}
