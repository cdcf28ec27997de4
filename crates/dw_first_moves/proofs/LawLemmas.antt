-- Each legal move does something, and only one thing.
use Rattle.std.proofs.Common.{◌≡◌, ℕ, zero, suc, ◌-◌, ◌≤◌, List, [], ◌∷◌, refl, ap, subst, ◌⊎◌, inl, inr, arith}
use Rattle.std.proofs.lemmas.Bool.{cases_lt}
use Rattle.dw_board.specs.Geometry.{Geometry, IsBoard}
use Rattle.dw_board.specs.Placement.{Placement}
use Rattle.dw_moves.specs.Laws.{MovesHaveKeys, MovesInOrder}
use Rattle.dw_moves.specs.Moves.{Move, Legal, play}
use Rattle.dw_moves.specs.Order.{Precedes, IsListOf}
use Rattle.dw_moves.specs.inner.OneListLemmas.{list_only}
use Rattle.dw_solve.specs.Laws.{WinsAreDecided, WinsStay}
use Rattle.dw_solve.specs.Wins.{Win, Lost}
use Rattle.dw_solve.specs.inner.LineOrderLemmas.{precedes_asym}
use Rattle.dw_solve.specs.inner.ListLemmas.{listed_where}
use Rattle.dw_verdict.specs.Verdict.{IsWinning, Refutes}
use Rattle.dw_first_moves.specs.FirstMoves.{Effect, wins_in, refuted_by, HasEffect, WinsFirstIn}
use Rattle.dw_first_moves.specs.Laws.{OneEffect}
use Rattle.dw_first_moves.proofs.EffectLemmas.{none_refutes, some_refutes}

not_of : {P : Type 0} → P ⊎ (P → ⊥) → (P → ⊥) ⊎ ((P → ⊥) → ⊥)
not_of (inl here) = inr (λ none. none here)
not_of (inr none) = inl none

module _ (order : MovesInOrder) (keys : MovesHaveKeys) (decided : WinsAreDecided) (stay : WinsStay) (g : Geometry)
    (board : IsBoard g) where
  refuting_some : (q : Placement) (n : ℕ) → (replies : List Move) × IsListOf (Precedes g q) (Refutes g q n) replies
  refuting_some q n =
      let all = order.some g board q in
      listed_where (Precedes g q) (Legal g q) (λ r. Win g (play g q r) n → ⊥)
      (λ r. not_of (decided g (play g q r) n)) all.0 all.1

  lost_or_not : (q : Placement) (n : ℕ) (replies : List Move) → IsListOf (Precedes g q) (Refutes g q n) replies
      → Lost g q n ⊎ (Lost g q n → ⊥)
  lost_or_not q n [] all = inl (none_refutes decided g q n [] all refl)
  lost_or_not q n (r ∷ replies) all = inr (some_refutes g q n (r ∷ replies) all (omega arith))

  winning_or_not : (p : Placement) (m : Move) → Legal g p m → (k : ℕ)
      → IsWinning g p k m ⊎ (IsWinning g p k m → ⊥)
  winning_or_not p m legal zero = inr (λ wins. wins)
  winning_or_not p m legal (suc k) =
      let all = refuting_some (play g p m) k in
      elim (lost_or_not (play g p m) k all.0 all.1) [
        | inl lost ↦ inl (legal, lost)
        | inr fails ↦ inr (λ wins. fails wins.1)
      ]

  wider : (p : Placement) (m : Move) (k n : ℕ) → k ≤ n → IsWinning g p k m → IsWinning g p n m
  wider p m zero n few wins = absurd wins
  wider p m (suc k) zero few wins = absurd (omega (arith, few))
  wider p m (suc k) (suc n) few wins = (wins.0, stay.lost g (play g p m) k n (omega (arith, few)) wins.1)

  -- the least number, or none
  least : (p : Placement) (m : Move) → Legal g p m → (n : ℕ)
      → ((k : ℕ) × WinsFirstIn g p n m k) ⊎ ((j : ℕ) → j ≤ n → IsWinning g p j m → ⊥)
  least p m legal zero = inr (none_yet p m) where
    none_yet : (p : Placement) (m : Move) (j : ℕ) → j ≤ zero → IsWinning g p j m → ⊥
    none_yet p m zero low wins = wins
    none_yet p m (suc j) low wins = absurd (omega (arith, low))
  least p m legal (suc n) = elim (least p m legal n) [
    | inl found ↦ inl (
      found.0,
      record {
        wins = found.1.wins;
        few = let few = found.1.few in omega (arith, few);
        none_less = found.1.none_less;
      },
    )
    | inr none ↦ elim (winning_or_not p m legal (suc n)) [
      | inl wins ↦ inl (
        suc n,
        record {
          wins = wins;
          few = omega arith;
          none_less = λ j low. none j (omega (arith, low));
        },
      )
      | inr fails ↦ inr (λ j low wins. elim (cases_lt n j) [
        | inl above ↦
            let same : j ≡ suc n = omega (arith, low, above) in fails (subst (λ z. IsWinning g p z m) same wins)
        | inr below ↦ none j (omega (arith, below)) wins
      ])
    ]
  ]

  some_effect : (p : Placement) (n : ℕ) (m : Move) → Legal g p m → (effect : Effect) × HasEffect g p n m effect
  some_effect p n m legal = elim (least p m legal n) [
    | inl found ↦ (wins_in found.0, found.1)
    | inr none ↦
        let all = refuting_some (play g p m) (n - 1) in
        (refuted_by all.0, (legal, none n (omega arith), all.1))
  ]

  only_effect : (p : Placement) (n : ℕ) (m : Move) (effect other : Effect) → HasEffect g p n m effect
      → HasEffect g p n m other → effect ≡ other
  only_effect p n m (wins_in k) (wins_in j) h o = elim (cases_lt k j) [
    | inl less ↦ absurd (o.none_less k less h.wins)
    | inr fails ↦ elim (cases_lt j k) [
      | inl more ↦ absurd (h.none_less j more o.wins)
      | inr neither ↦ ap wins_in (omega (arith, fails, neither))
    ]
  ]
  only_effect p n m (wins_in k) (refuted_by replies) h o = absurd (o.1 (wider p m k n h.few h.wins))
  only_effect p n m (refuted_by replies) (wins_in k) h o = absurd (h.1 (wider p m k n o.few o.wins))
  only_effect p n m (refuted_by replies) (refuted_by others) h o =
      ap refuted_by (list_only (Precedes g (play g p m)) (Refutes g (play g p m) (n - 1))
      (precedes_asym keys g (play g p m)) replies others h.2 o.2)

pub one_effect : MovesInOrder → MovesHaveKeys → WinsAreDecided → WinsStay → OneEffect
one_effect order keys decided stay = record {
  some = λ g board p n m few legal. some_effect order keys decided stay g board p n m legal;
  only = λ g board p n m effect other h o. only_effect order keys decided stay g board p n m effect other h o;
}
