-- A reply that is left out.
use Rattle.std.proofs.Common.{◌≡◌, ℕ, zero, suc, ◌<◌, true, false, List, [], ◌∷◌, ◌++◌, length, get_or, take, Ok}
use Rattle.std.proofs.Common.{Err, refl, sym, subst, ◌∙◌, arith, inl, inr}
use Rattle.std.proofs.Math.Seq.{take-suc}
use Rattle.dw_board.specs.Geometry.{Geometry}
use Rattle.dw_board.specs.Lists.{Member}
use Rattle.dw_board.specs.Placement.{Placement}
use Rattle.dw_moves.specs.Moves.{AreLegal, Legal, Move, play}
use Rattle.dw_moves.specs.inner.MemberLemmas.{mem_cases}
use Rattle.dw_notation.specs.MoveReading.{IsRead}
use Rattle.dw_notation.specs.declared.read_move.MoveFault.{MoveFault}
use Rattle.dw_notation.specs.declared.read_move.MoveFault.TheVariants as reading
use Rattle.dw_games.specs.Tokens.{Token}
use Rattle.dw_games.specs.Play.{IsOnlyMove, HasTwoMoves, IsNamed, NamesNoneBehind, plain}
use Rattle.dw_games.specs.inner.Reading.{IsForcedOr, IsSearched}
use Rattle.dw_games.specs.inner.Refusals.{refusal_of, searched_of}

module _ (g : Geometry) (q : Placement) where
  -- a text that names no move of a position has the form of a move
  has_form : {A : Type 0} (text : List ℕ) (r : Placement) → IsRead g q text (Err reading.NoSuchMove)
      → IsRead g r text (Err reading.Syntax) → A
  has_form text r is none = absurd (none is.named is.names)

  -- after one reply
  pub named_one : (text : List ℕ) (reply m : Move) → IsRead g (play g q reply) text (Ok m)
      → IsSearched g q text (reply ∷ []) (Ok true)
  named_one text reply m is = (reply, inl refl, inl (m, is))

  pub named_several : (text : List ℕ) (reply : Move) (why : MoveFault) → IsRead g q text (Err reading.NoSuchMove)
      → IsRead g (play g q reply) text (Err why) → IsSearched g q text (reply ∷ []) (searched_of why)
  named_several text reply reading.Syntax form is = has_form text (play g q reply) form is
  named_several text reply reading.NoSuchMove form is = λ other there. elim there [
    | inl e ↦ subst (λ x. IsRead g (play g q x) text (Err reading.NoSuchMove)) (sym e) is
    | inr gone ↦ absurd gone
  ]
  named_several text reply reading.Ambiguous form is = (reply, inl refl, inr is)
  named_several text reply reading.Memory form is = refl

  pub step_fault : (B : Type 0) (t : Token) (reply : Move) (why : MoveFault)
      → IsRead g q (plain t.text) (Err reading.NoSuchMove) → IsOnlyMove g q reply
      → IsRead g (play g q reply) (plain t.text) (Err why)
      → IsForcedOr {B = B} g q t (Err (refusal_of t.place false why))
  step_fault B t reply reading.Syntax form only is = has_form (plain t.text) (play g q reply) form is
  step_fault B t reply reading.NoSuchMove form only is = (
    (λ other legal. subst (λ x. IsRead g (play g q x) (plain t.text) (Err reading.NoSuchMove))
        (sym (only.alone other legal)) is),
    refl,
  )
  step_fault B t reply reading.Ambiguous form only is = (reply, only, is, refl)
  step_fault B t reply reading.Memory form only is = tt

  -- ---- one reply after another
  pub got_member : (xs : List Move) (i : ℕ) (x : Move) → i < length xs → x ≡ get_or xs i x → Member x xs
  got_member [] i x inside e = absurd (omega (arith, inside))
  got_member (y ∷ xs) zero x inside e = inl e
  got_member (y ∷ xs) (suc i) x inside e = inr (got_member xs i x (omega (arith, inside)) e)

  pub none_more : (text : List ℕ) (xs : List Move) (i : ℕ) (x : Move) → i < length xs → x ≡ get_or xs i x
      → ((m : Move) → Member m (take i xs) → IsRead g (play g q m) text (Err reading.NoSuchMove))
      → IsSearched g q text (x ∷ []) (Ok false)
      → (m : Move) → Member m (take (suc i) xs) → IsRead g (play g q m) text (Err reading.NoSuchMove)
  none_more text xs i x inside e old new m there =
      let cut : take (suc i) xs ≡ take i xs ++ get_or xs i x ∷ [] = take-suc xs i x inside in
      elim (mem_cases m (take i xs) (get_or xs i x ∷ []) (subst (λ z. Member m z) cut there)) [
        | inl early ↦ old m early
        | inr (inl same) ↦ new m (inl (same ∙ sym e))
        | inr (inr gone) ↦ absurd gone
      ]

  pub named_more : (text : List ℕ) (xs : List Move) (i : ℕ) (x : Move) → i < length xs → x ≡ get_or xs i x
      → IsSearched g q text (x ∷ []) (Ok true) → IsSearched g q text xs (Ok true)
  named_more text xs i x inside e (reply, inl same, is) =
      (x, got_member xs i x inside e, subst (λ z. IsNamed g (play g q z) text) same is)
  named_more text xs i x inside e (reply, inr gone, is) = absurd gone

  -- ---- all replies
  pub only_one : (xs : List Move) (x : Move) → AreLegal g q xs → length xs ≡ 1 → x ≡ get_or xs 0 x → IsOnlyMove g q x
  only_one [] x are many e = absurd (omega (arith, many))
  only_one (y ∷ []) x are many e = record {
    legal = (are.exactly x).0 (inl e);
    alone = λ other legal. elim ((are.exactly other).1 legal) [ inl is ↦ is ∙ sym e | inr gone ↦ absurd gone ];
  }
  only_one (y ∷ z ∷ xs) x are many e = absurd (omega (arith, many))

  two_moves : (xs : List Move) (x : Move) → AreLegal g q xs → (length xs ≡ 1 → ⊥) → Member x xs → HasTwoMoves g q
  two_moves [] x are many there = absurd there
  two_moves (y ∷ []) x are many there = absurd (many refl)
  two_moves (y ∷ z ∷ xs) x are many there = record {
    first = y;
    second = z;
    legal = (are.exactly y).0 (inl refl);
    legal_too = (are.exactly z).0 (inr (inl refl));
    differ = λ e. are.once.0 (inl e);
  }

  pub reply_fault : (t : Token) (xs : List Move) → AreLegal g q xs → (length xs ≡ 1 → ⊥)
      → IsSearched g q (plain t.text) xs (Ok true) → (reply : Move) × HasTwoMoves g q × Legal g q reply
      × IsNamed g (play g q reply) (plain t.text) × (t.place ≡ t.place)
  reply_fault t xs are many (reply, there, is) =
      (reply, two_moves xs reply are many there, (are.exactly reply).0 there, is, refl)

  pub none_fault : (text : List ℕ) (xs : List Move) → AreLegal g q xs → IsSearched g q text xs (Ok false)
      → NamesNoneBehind g q text
  none_fault text xs are none reply legal = none reply ((are.exactly reply).1 legal)
