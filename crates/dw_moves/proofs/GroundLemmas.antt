-- The sets of a position without one of its pieces.
use Rattle.std.proofs.Common.{◌≡◌, ◌≢◌, ℕ, ◌≤◌, sym, ap, ◌∙◌, subst, None, is_some, inl, inr, arith, refl}
use Rattle.std.proofs.lemmas.Bool.{true≢false}
use Rattle.std.specs.FinSet as fin
use Rattle.dw_board.specs.declared.piece.Side.{Side}
use Rattle.dw_board.specs.declared.piece.Side.TheVariants.{White, Black}
use Rattle.dw_board.specs.declared.piece.Piece.{Piece}
use Rattle.dw_board.specs.Geometry.{Geometry, IsBoard, Squares}
use Rattle.dw_board.specs.Placement.{Placement, IsPosition, at, count, other, placed, same_side}
use Rattle.dw_moves.specs.Moves.{In, Stands}
use Rattle.dw_moves.specs.inner.Glance.{AreSets, IsGround}
use Rattle.dw_moves.proofs.StepLemmas.{none_some, some_inj}
use Rattle.dw_moves.proofs.ExactLemmas.{option_cases}
use Rattle.dw_moves.proofs.CaptureBoundLemmas.{stood, emptied, held, held_count, at_held}
use Rattle.dw_moves.proofs.FirstJumpLemmas.{other_at}
use Rattle.dw_moves.proofs.SquareSetLemmas.{in_rest, len_within}

-- no side is the other one
pub apart_sides : (side : Side) → side ≡ other side → ⊥
apart_sides White e = absurd (true≢false (ap (same_side White) e))
apart_sides Black e = absurd (true≢false (ap (same_side Black) e))

-- the sets, without a piece of the side to move on one square
pub ground_behind : {g : Geometry} {p : Placement} {from : ℕ} {piece : Piece}
    {men kings enemies occupied behind rest : Squares} → AreSets g p men kings enemies occupied
    → Stands g p from piece → behind ≡ enemies → rest ≡ fin.remove occupied from
    → IsGround g (placed p from None) p.turn behind rest
ground_behind {p = p} {from = from} {piece = piece} {occupied = occupied} {rest = rest} sets stands behind_is
    rest_is = record {
      of_enemies = λ s. (
        (λ h.
            let e = (sets.of_enemies s).0 (subst (In s) behind_is h) in
            let ne : s ≢ from = λ same.
            let one : piece ≡ record { side = other p.turn; kind = e.1.0 } = some_inj (sym stands.there
            ∙ (ap (at p) (sym same) ∙ e.1.1)) in
            apart_sides p.turn (sym stands.own ∙ ap (λ (z : Piece). z.side) one) in
            (e.0, (e.1.0, other_at p from s stands.on_board.0 e.0.0 ne ∙ e.1.1))),
        (λ h. subst (In s) (sym behind_is) ((sets.of_enemies s).1
            (h.0, (h.1.0, stood p from s (record { side = other p.turn; kind = h.1.0 }) h.1.1)))),
      );
      of_all = λ s. (
        (λ h.
            let parts = (in_rest occupied from rest s rest_is).0 h in
            let e = (sets.of_all s).0 parts.0 in
            (e.0, ap is_some (other_at p from s stands.on_board.0 e.0.0 parts.1 ∙ e.1.1))),
        (λ h. elim (option_cases (at (placed p from None) s)) [
          | inl none ↦ absurd (true≢false (sym h.1 ∙ ap is_some none))
          | inr q ↦
              let there : In s occupied = (sets.of_all s).1 (h.0, (q.0, stood p from s q.0 q.1)) in
              (in_rest occupied from rest s rest_is).1 (
                there,
                λ same. none_some q.0 (sym (ap (at (placed p from None)) same
                    ∙ emptied p from) ∙ q.1),
              )
        ]),
      );
    }

pub side_fits : (g : Geometry) (p : Placement) (side : Side) → IsPosition g p.cells → count p side ≤ g.side
side_fits g p White pos = pos.white_fits
side_fits g p Black pos = pos.black_fits

-- the other side has at most twenty pieces
pub enemies_few : (g : Geometry) → IsBoard g → (p : Placement) (men kings enemies occupied : Squares)
    → IsPosition g p.cells → AreSets g p men kings enemies occupied → fin.len enemies ≤ 20
enemies_few g board p men kings enemies occupied pos sets =
    let side : Side = other p.turn in
    let within = len_within (held side 1 p.cells) enemies (λ s h.
    let e = (sets.of_enemies s).0 h in
    at_held side p s (record { side = side; kind = e.1.0 }) e.0.0 e.1.1 refl) in
    omega (arith, within, held_count side 1 p.cells, side_fits g p side pos, board.side_high)
