-- Worked positions, computed.
use Rattle.std.proofs.Common.{◌≡◌, ◌||◌, ℕ, Bool, true, false, List, [], ◌∷◌, refl, sym, ap, ◌∙◌, subst, inl, inr}
use Rattle.std.proofs.Common.{nat_eq}
use Rattle.std.specs.Ordering.{nat_cmp}
use Rattle.std.specs.Cmp.{nat_cmp_total}
use Rattle.std.specs.FinSet as set
use Rattle.dw_board.specs.Boards.{ten}
use Rattle.dw_board.specs.Placement.{Placement}
use Rattle.dw_moves.specs.Moves.{Move}
use Rattle.dw_board.specs.Lists.{Member}
use Rattle.dw_moves.specs.WorkedPositions.{move, AreTheLegal, WorkedPositions}
use Rattle.dw_moves.proofs.PlainLemmas.{legal_list}
use Rattle.dw_moves.proofs.LegalMoveLemmas.{legal_from, legal_in}

listed : (p : Placement) (moves : List Move) → legal_list ten p ≡ moves → AreTheLegal p moves
listed p moves e m = (
  (λ h. legal_from ten p m (subst (Member m) (sym e) h)),
  (λ h. subst (Member m) e (legal_in ten p m h)),
)

reversed : (a b c d : Bool) → (a || (b || (c || (d || false)))) ≡ (d || (c || (b || (a || false))))
reversed true true true true = refl
reversed true true true false = refl
reversed true true false true = refl
reversed true true false false = refl
reversed true false true true = refl
reversed true false true false = refl
reversed true false false true = refl
reversed true false false false = refl
reversed false true true true = refl
reversed false true true false = refl
reversed false true false true = refl
reversed false true false false = refl
reversed false false true true = refl
reversed false false true false = refl
reversed false false false true = refl
reversed false false false false = refl

-- the same squares, taken in the other order
same_backwards : (a b c d : ℕ) → set.from_list {R = nat_cmp} (a ∷ b ∷ c ∷ d ∷ []) ≡ set.from_list (d ∷ c ∷ b ∷ a ∷ [])
same_backwards a b c d =
    set.same_set nat_cmp_total set.nat_cmp-IsAntisymmetric _ _
    (λ q. set.contains-from_list_nat (a ∷ b ∷ c ∷ d ∷ []) q ∙ reversed (nat_eq a q) (nat_eq b q) (nat_eq c q)
    (nat_eq d q) ∙ sym (set.contains-from_list_nat (d ∷ c ∷ b ∷ a ∷ []) q))

-- a capture and the one that goes round the other way are one move
found_twice : (p : Placement) (from to a b c d : ℕ)
    → AreTheLegal p (move from to (a ∷ b ∷ c ∷ d ∷ []) ∷ move from to (d ∷ c ∷ b ∷ a ∷ []) ∷ [])
    → AreTheLegal p (move from to (a ∷ b ∷ c ∷ d ∷ []) ∷ [])
found_twice p from to a b c d h x =
    let same = ap (λ taken. let m : Move = record { from = from; to = to; taken = taken } in m)
    (same_backwards a b c d) in (
      (λ k. elim k [ inl e ↦ (h x).0 (inl e) | inr none ↦ absurd none ]),
      (λ l. elim ((h x).1 l) [ inl e ↦ inl e | inr (inl e) ↦ inl (e ∙ sym same) | inr (inr none) ↦ absurd none ]),
    )

pub worked_positions : WorkedPositions
worked_positions = record {
  passes = listed _ _ refl;
  barred = listed _ _ refl;
  lands = listed _ _ refl;
  forward = listed _ _ refl;
  returns = found_twice _ 38 38 32 22 23 33 (listed _ _ refl);
  shares = listed _ _ refl;
}
