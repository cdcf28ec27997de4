-- Passing the moves of a list one by one.
use Rattle.std.proofs.Common.{◌≡◌, ℕ, ◌+◌, ◌<◌, ◌≤◌, zero, suc, Some, None, Option, Bool, subst, List, [], ◌∷◌, length}
use Rattle.std.proofs.Common.{map, drop, get_or, refl, sym, ap, ◌∙◌, arith}
use Rattle.std.specs.Prelude.{option_map}
use Rattle.dw_board.specs.Placement.{Placement}
use Rattle.dw_moves.specs.Moves.{Move}
use Rattle.dw_list.specs.LineStack.{Level}
use Rattle.dw_list.specs.inner.Steps.{first_ahead, passed}

abbrev pub level : Placement → Bool → ℕ → Option (List Move) → Level
level p attacks left ahead = record { position = p; attacks = attacks; left = left; ahead = ahead }

module _ {V : Type 0} (step : V → Move) where
  pub first_some : (xs : List V) (i : ℕ) (x : V) → i < length xs → x ≡ get_or xs i x
      → first_ahead (Some (drop i (map step xs))) ≡ Some (step x)
  first_some [] i x low e = absurd (omega arith)
  first_some (y ∷ xs) zero x low e = ap (λ z. Some (step z)) (sym e)
  first_some (y ∷ xs) (suc i) x low e = first_some xs i x (omega arith) e

  pub first_none : (xs : List V) (i : ℕ) → length xs ≤ i → first_ahead (Some (drop i (map step xs))) ≡ None
  first_none [] zero high = refl
  first_none [] (suc i) high = refl
  first_none (y ∷ xs) zero high = absurd (omega arith)
  first_none (y ∷ xs) (suc i) high = first_none xs i (omega arith)

  drop_more : (xs : List V) (i : ℕ) → drop (suc i) (map step xs) ≡ drop 1 (drop i (map step xs))
  drop_more [] zero = refl
  drop_more [] (suc i) = refl
  drop_more (y ∷ xs) zero = refl
  drop_more (y ∷ xs) (suc i) = drop_more xs i

  -- the moves ahead, if one more of the list is passed
  ahead_more : {W : Type 0} (items : W → List V) (o : Option W) (i : ℕ)
      → option_map (λ w. drop (i + 1) (map step (items w))) o
      ≡ option_map (drop 1) (option_map (λ w. drop i (map step (items w))) o)
  ahead_more items None i = refl
  ahead_more items (Some w) i = let one : i + 1
      ≡ suc i = omega arith in ap Some (ap (λ z. drop z (map step (items w))) one ∙ drop_more (items w) i)

  -- the level, if one more is passed
  pub pass_level : {W : Type 0} (items : W → List V) (f : Level) (p : Placement) (attacks : Bool) (left : ℕ)
      (o : Option W) (i : ℕ) → level p attacks left (option_map (λ w. drop i (map step (items w))) o) ≡ f
      → level p attacks left (option_map (λ w. drop (i + 1) (map step (items w))) o) ≡ passed f
  pass_level items f p attacks left o i is =
      subst (λ (z : Level). level p attacks left (option_map (λ w. drop (i + 1) (map step (items w))) o) ≡ passed z) is
      (λ k. level p attacks left (ahead_more items o i k))
