-- Pieces of the side to move, and whether it has a legal move.
use Rattle.std.proofs.Common.{◌≡◌, ℕ, ◌<◌, zero, suc, refl, sym, ◌∙◌, inl, inr, ◌⊎◌, arith, false, true}
use Rattle.std.proofs.lemmas.Bool.{true≢false}
use Rattle.std.specs.Prelude.{◌↔◌, Bool, IsTrue}
use Rattle.std.specs.FinSet as fin
use Rattle.dw_board.specs.Geometry.{Geometry}
use Rattle.dw_board.specs.Placement.{Placement, at}
use Rattle.dw_moves.specs.Moves.{IsBest, CanCapture, Move, Legal, LegalAt, last_of}
use Rattle.dw_moves.specs.inner.Glance.{CanStep}
use Rattle.dw_moves.proofs.PlainLemmas.{best}
use Rattle.dw_moves.proofs.LegalMoveLemmas.{is_best}

-- some move is legal where something can be taken
has_capture : (g : Geometry) (p : Placement) (k : ℕ) → IsBest g p k → 0 < k → (m : Move) × Legal g p m
has_capture g p zero h some = absurd (omega arith)
has_capture g p (suc k) h some =
    let r = h.reached some in (
      record { from = r.0; to = last_of r.0 r.1; taken = fin.from_list r.2 },
      (suc k, h, (r.1, record { over = r.2; path = r.3; count = r.4; ends = refl; takes = refl })),
    )

pub capture_moves : (g : Geometry) (p : Placement) → CanCapture g p → (m : Move) × Legal g p m
capture_moves g p h = has_capture g p (best g p) (is_best g p) (omega (arith, (is_best g p).most h.0 h.1 h.2 h.3, h.4))

-- where a quiet move is there, a move is legal: that one, or a capture
pub step_moves : (g : Geometry) (p : Placement) → CanStep g p → (m : Move) × Legal g p m
step_moves g p h = by_most (best g p) (is_best g p) where
  by_most : (k : ℕ) → IsBest g p k → (m : Move) × Legal g p m
  by_most zero most = (record { from = h.0; to = h.1; taken = fin.empty }, (0, most, (h.2, refl)))
  by_most (suc k) most = has_capture g p (suc k) most (omega arith)

pub move_by_step : (g : Geometry) (p : Placement) (r : Bool) → IsTrue r ↔ CanStep g p → r ≡ true → IsTrue r
    ↔ ((m : Move) × Legal g p m)
move_by_step g p r h e = ((λ t. step_moves g p (h.0 t)), (λ m. e))

-- a legal move is a quiet one or a capture
takes_or_steps : (g : Geometry) (p : Placement) (m : Move) (k : ℕ) → LegalAt g p k m → CanStep g p ⊎ CanCapture g p
takes_or_steps g p m zero at = inl (m.from, m.to, at.0)
takes_or_steps g p m (suc k) at = inr (m.from, at.0, at.1.over, at.1.path, omega (arith, at.1.count))

pub move_by_capture : (g : Geometry) (p : Placement) (r q : Bool) → IsTrue r ↔ CanStep g p → r ≡ false → IsTrue q
    ↔ CanCapture g p → IsTrue q ↔ ((m : Move) × Legal g p m)
move_by_capture g p r q h e s = (
  (λ t. capture_moves g p (s.0 t)),
  (λ m. elim (takes_or_steps g p m.0 m.1.0 m.1.2) [
    | inl step ↦ absurd (true≢false (sym (h.1 step) ∙ e))
    | inr capture ↦ s.1 capture
  ]),
)
