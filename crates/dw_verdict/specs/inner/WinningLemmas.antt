-- Moves that win, and moves that fail to one reply only.
use Rattle.std.proofs.Common.{◌≡◌, ℕ, ◌-◌, zero, suc, List, [], ◌∷◌, refl, sym, ◌∙◌, subst, ◌⊎◌, inl, inr, arith}
use Rattle.std.proofs.Common.{Option, Some, None}
use Rattle.dw_board.specs.Geometry.{Geometry, IsBoard}
use Rattle.dw_board.specs.Placement.{Placement}
use Rattle.dw_moves.specs.Moves.{Move, Legal, play}
use Rattle.dw_board.specs.Lists.{Member}
use Rattle.dw_moves.specs.Order.{Precedes, IsAscending, IsListOf}
use Rattle.dw_moves.specs.Laws.{MovesInOrder, MovesHaveKeys}
use Rattle.dw_solve.specs.Wins.{Win}
use Rattle.dw_solve.specs.Laws.{WinsAreDecided}
use Rattle.dw_solve.specs.inner.LineOrderLemmas.{precedes_asym}
use Rattle.dw_solve.specs.inner.ListLemmas.{listed_where}
use Rattle.dw_verdict.specs.Verdict.{IsWinning, Refutes, IsRefutation, FindsRefutation, Tries}

pub winning_legal : (g : Geometry) (p : Placement) (n : ℕ) (m : Move) → IsWinning g p n m → Legal g p m
winning_legal g p zero m h = absurd h
winning_legal g p (suc n) m h = h.0

-- some refutation, or just one, or none
refutation_among : (g : Geometry) (q : Placement) (n : ℕ) (rs : List Move)
    → ((r : Move) → Member r rs → Refutes g q n r) → ((r : Move) → Refutes g q n r → Member r rs)
    → IsAscending (Precedes g q) rs → MovesHaveKeys → (o : Option Move) × FindsRefutation g q n o
refutation_among g q n [] to back order law = (None, λ r h. back r h.refutes)
refutation_among g q n (r ∷ []) to back order law = (
  Some r,
  record {
    refutes = to r (inl refl);
    only = λ other h. elim (back other h) [
      | inl e ↦ e
      | inr none ↦
          absurd none
    ];
  },
)
refutation_among g q n (r ∷ s ∷ rs) to back order law = (
  None,
  λ x h.
      let e : r ≡ x = h.only r (to r (inl refl)) in
      let f : s ≡ x = h.only s (to s (inr (inl refl))) in
      let less : Precedes g q r s = order.0 s (inl refl) in
      let loop : Precedes g q r r = subst (Precedes g q r) (f ∙ sym e) less in
      precedes_asym law g q r r loop loop,
)

win_or_not : {A : Type 0} → A ⊎ (A → ⊥) → (A → ⊥) ⊎ ((A → ⊥) → ⊥)
win_or_not (inl w) = inr (λ none. none w)
win_or_not (inr none) = inl none

pub refutation_some : WinsAreDecided → MovesInOrder → MovesHaveKeys → (g : Geometry) → IsBoard g
    → (q : Placement) (n : ℕ) → (o : Option Move) × FindsRefutation g q n o
refutation_some decided order law g board q n =
    let all = order.some g board q in
    let f = listed_where (Precedes g q) (Legal g q) (λ r. Win g (play g q r) n
    → ⊥) (λ r. win_or_not (decided g (play g q r) n)) all.0 all.1 in
    refutation_among g q n f.0 (λ r m. (f.1.exactly r).0 m) (λ r h. (f.1.exactly r).1 h) f.1.ascending law

-- a refuted move is no key
pub refuted_fails : (g : Geometry) (p : Placement) (n : ℕ) (m r : Move) → Refutes g (play g p m) (n - 1) r
    → IsWinning g p n m → ⊥
refuted_fails g p zero m r h key = key
refuted_fails g p (suc n) m r h key =
    let same : n ≡ suc n - 1 = omega arith in
    h.1 (subst (Win g (play g (play g p m) r)) same (key.1 r h.0))

-- the tries are those among all legal moves
pub tries_listed : (g : Geometry) (p : Placement) (n : ℕ) (ms : List Move) (ts : List (Move × Move))
    → IsListOf (Precedes g p) (Legal g p) ms
    → IsListOf (λ (s t : Move × Move). Precedes g p s.0 t.0) (λ (t : Move × Move). Member t.0 ms
    × IsRefutation g (play g p t.0) (n - 1) t.1) ts → Tries g p n ts
tries_listed g p n ms ts legal all = record {
  ascending = all.ascending;
  exactly = λ t. (
    (λ k. let h = (all.exactly t).0 k in ((legal.exactly t.0).0 h.0, refuted_fails g p n t.0 t.1 h.1.refutes, h.1)),
    (λ h. (all.exactly t).1 ((legal.exactly t.0).1 h.0, h.2)),
  );
}
