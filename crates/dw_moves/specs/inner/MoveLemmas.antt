-- Equality of moves is equality of what contracts see, and a list of legal moves has legal moves.
use Rattle.std.proofs.Common.{◌≡◌, ℕ, ◌<◌, zero, suc, Bool, true, List, [], ◌∷◌, length, get_or, sym, ap, ◌∙◌, ◌↔◌, inl}
use Rattle.std.proofs.Common.{inr, arith, eqb}
use Rattle.std.specs.Cmp.{nat_cmp_total}
use Rattle.std.specs.Cmp.Lexicographic.{pointwise, bytes_decides}
use Rattle.std.specs.FinSet as set
use Rattle.std.specs.List.{list_any}
use Rattle.std.specs.Ordering.{on, eq_of_both, eq_by_cmp, nat_cmp}
use Rattle.std.proofs.lemmas.Bool.{and_parts, and_from, eqb-true, eq-eqb}
use Rattle.dw_board.specs.Geometry.{Geometry, Squares}
use Rattle.dw_board.specs.Placement.{Placement}
use Rattle.dw_moves.specs.Moves.{Move, Legal, AreLegal}
use Rattle.dw_board.specs.Lists.{Member}

-- sets with the same items are the same
pub same_items : (v w : Squares) → set.items v ≡ set.items w → v ≡ w
same_items v w e = set.same_set nat_cmp_total set.nat_cmp-IsAntisymmetric v w
    (λ q. set.contains-items v q ∙ (ap (list_any (eq_by_cmp nat_cmp q)) e ∙ sym (set.contains-items w q)))

-- moves with the same parts are the same
pub same_move : (m n : Move) → m.from ≡ n.from → m.to ≡ n.to → m.taken ≡ n.taken → m ≡ n
same_move m n f t k = λ i. record { from = f i; to = t i; taken = k i }

abbrev pub same_moves : Move → Move → Bool
same_moves = eq_of_both (on (λ m. m.from) eqb)
    (eq_of_both (on (λ m. m.to) eqb) (on (λ m. set.items m.taken) (pointwise eqb)))

pub same_moves-is : (m n : Move) → (same_moves m n ≡ true) ↔ (m ≡ n)
same_moves-is m n = (
  (λ e. let h = and_parts _ _ e in
      let k = and_parts _ _ h.1 in
      same_move m n (eqb-true _ _ h.0) (eqb-true _ _ k.0)
      (same_items m.taken n.taken ((bytes_decides (set.items m.taken) (set.items n.taken)).0 k.1))),
  (λ e. and_from _ _ (eq-eqb _ _ (ap (λ m. m.from) e))
      (and_from _ _ (eq-eqb _ _ (ap (λ m. m.to) e))
      ((bytes_decides (set.items m.taken) (set.items n.taken)).1 (ap (λ m. set.items m.taken) e)))),
)

member_at : (moves : List Move) (i : ℕ) (m : Move) → i < length moves → m ≡ get_or moves i m → Member m moves
member_at [] i m low e = absurd (omega arith)
member_at (x ∷ moves) zero m low e = inl e
member_at (x ∷ moves) (suc i) m low e = inr (member_at moves i m (omega arith) e)

-- each move of the list of legal moves is legal
pub listed_is_legal : (g : Geometry) (p : Placement) (moves : List Move) (i : ℕ) (m : Move) → AreLegal g p moves
    → i < length moves → m ≡ get_or moves i m → Legal g p m
listed_is_legal g p moves i m h low e = (h.exactly m).0 (member_at moves i m low e)
