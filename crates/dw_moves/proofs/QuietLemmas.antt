-- The list of quiet moves, and how it is filled.
use Rattle.std.proofs.Common.{◌≡◌, ℕ, List, refl, sym, ap, ◌∙◌, subst, ◌↔◌, inl, inr, Bool, true, Some, None}
use Rattle.std.specs.Prelude.{IsTrue}
use Rattle.dw_board.specs.declared.board.Dir.{Dir}
use Rattle.dw_board.specs.declared.piece.Kind.{Kind}
use Rattle.dw_board.specs.declared.piece.Kind.TheVariants.{Man, King}
use Rattle.dw_board.specs.declared.piece.Piece.{Piece}
use Rattle.dw_board.specs.Geometry.{Geometry, IsBoard, OnBoard}
use Rattle.dw_board.specs.Placement.{Placement, at, same_side}
use Rattle.dw_moves.specs.Moves.{Quiet, ray}
use Rattle.dw_board.specs.Lists.{Member}
use Rattle.dw_moves.specs.inner.Plain.{dirs, landings_for, goes, quiet_for, targets_of, targets, free_step}
use Rattle.dw_moves.specs.inner.MemberLemmas.{mem_flat, mem_flat_back}
use Rattle.dw_moves.proofs.LegalMoveLemmas.{target_from, target_in}
use Rattle.dw_moves.proofs.ExactLemmas.{all_dirs}
use Rattle.dw_moves.proofs.RunLemmas.{Freed, man_run, king_run, run_stop}

-- the square is none of those that were passed
pub record Passed (g : Geometry) (p : Placement) (k : Kind) (d : Dir) (from to at : ℕ) : Type 0 where
  pub on : OnBoard g at
  pub same : Member to (landings_for k p (ray g from d)) ↔ Member to (landings_for k p (ray g at d))

-- a king goes on to a square that is not it
pub passed_more : (g : Geometry) (p : Placement) (k : Kind) (d : Dir) (from to s t : ℕ) → k ≡ King
    → Passed g p k d from to s → Freed g p s d t → (t ≡ to → ⊥) → Passed g p k d from to t
passed_more g p Man d from to s t k h f ne = cc
passed_more g p King d from to s t k h f ne =
    let run = king_run f in
    record {
      on = f.on;
      same = (
        (λ m. elim (subst (Member to) run (h.same.0 m)) [ inl e ↦ absurd (ne (sym e)) | inr r ↦ r ]),
        (λ m. h.same.1 (subst (Member to) (sym run) (inr m))),
      );
    }

-- it is the next square
pub reached_it : (g : Geometry) (p : Placement) (k : Kind) (d : Dir) (from to s t : ℕ) → Passed g p k d from to s
    → Freed g p s d t → t ≡ to → Member to (landings_for k p (ray g from d))
reached_it g p Man d from to s t h f e = h.same.1 (subst (Member to) (sym (man_run f)) (inl (sym e)))
reached_it g p King d from to s t h f e = h.same.1 (subst (Member to) (sym (king_run f)) (inl (sym e)))

-- a man goes no further
pub man_missed : (g : Geometry) (p : Placement) (k : Kind) (d : Dir) (from to s t : ℕ) → k ≡ Man
    → Passed g p k d from to s → Freed g p s d t → (t ≡ to → ⊥) → Member to (landings_for k p (ray g from d)) → ⊥
man_missed g p Man d from to s t k h f ne m = elim (subst (Member to) (man_run f) (h.same.0 m))
    [ inl e ↦ ne (sym e) | inr r ↦ r ]
man_missed g p King d from to s t k h f ne m = cc

-- no square comes next
pub run_missed : (g : Geometry) → IsBoard g → (p : Placement) (k : Kind) (d : Dir) (from to s : ℕ)
    → Passed g p k d from to s → free_step g p s d ≡ None → Member to (landings_for k p (ray g from d)) → ⊥
run_missed g b p k d from to s h e m = subst (Member to) (run_stop g b k p s d h.on e) (h.same.0 m)

-- where a piece of the mover may go is a quiet move
pub own_quiet : (g : Geometry) (p : Placement) (from to : ℕ) (piece : Piece) → OnBoard g from → at p from ≡ Some piece
    → same_side piece.side p.turn ≡ true → (r : Bool)
    → IsTrue r ↔ ((d : Dir) × Member to (goes piece.kind g p p.turn from d)) → IsTrue r ↔ Quiet g p from to
own_quiet g p from to piece on e own r some =
    let f : Dir → List ℕ = goes piece.kind g p p.turn from in
    let are : targets g p from ≡ quiet_for piece.kind g p p.turn from = ap (targets_of g p from) e
    ∙ rw (own, targets_of) refl in (
      (λ t. let h = some.0 t in
          target_from g p from to on (subst (Member to) (sym are) (mem_flat f h.0 to dirs (all_dirs h.0) h.1))),
      (λ q. let h = mem_flat_back f to dirs (subst (Member to) are (target_in g p from to q)) in some.1 (h.0, h.2)),
    )
