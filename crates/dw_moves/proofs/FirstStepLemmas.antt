-- Some quiet move is there where a single step is, and a step is found on the sets of a position.
use Rattle.std.proofs.Common.{◌≡◌, ℕ, ◌∙◌, subst, ◌↔◌, Bool}
use Rattle.std.specs.Prelude.{IsTrue}
use Rattle.dw_board.specs.declared.board.Dir.{Dir}
use Rattle.dw_board.specs.declared.piece.Side.{Side}
use Rattle.dw_board.specs.Geometry.{Geometry, IsBoard, Squares}
use Rattle.dw_board.specs.Placement.{Placement}
use Rattle.dw_moves.specs.Moves.{Quiet}
use Rattle.dw_moves.specs.Replies.{OneStep}
use Rattle.dw_moves.specs.inner.Glance.{AreSets, Steps, CanStep}
use Rattle.dw_moves.proofs.FirstJumpLemmas.{head_free}
use Rattle.dw_moves.proofs.ReplyLemmas.{step_quiet}
use Rattle.dw_moves.proofs.SlideLemmas.{ray_head}
use Rattle.dw_moves.proofs.StepSetLemmas.{step_of, from_step}

pub can_step_if : {g : Geometry} → IsBoard g → {p : Placement} {men kings enemies occupied : Squares}
    → AreSets g p men kings enemies occupied → {side : Side} → side ≡ p.turn → {r : Bool}
    → IsTrue r ↔ ((d : Dir) × Steps g side men kings occupied d) → IsTrue r ↔ CanStep g p
can_step_if {g} b {p} {men} {kings} {enemies} {occupied} sets e {r} h =
    let steps = subst (λ z. IsTrue r ↔ ((d : Dir) × Steps g z men kings occupied d)) e h in (
      (λ t.
          let s = steps.0 t in
          let one : OneStep g p s.1.0 s.1.1 = step_of b sets s.0 s.1.0 s.1.1
          (s.1.2, s.1.3, s.1.4) in
          (s.1.0, s.1.1, step_quiet g b p s.1.0 s.1.1 one)),
      (λ can. steps.1 (first_step can.0 can.1 can.2)),
    ) where
      first_step : (s t : ℕ) → Quiet g p s t → (d : Dir) × Steps g p.turn men kings occupied d
      first_step s t q =
          let next = head_free p q.between t q.beyond q.clear q.free in
          let one : OneStep g p s next.0 = record {
            piece = q.piece;
            stands = q.stands;
            dir = q.dir;
            leads = (ray_head g b s next.0 next.1 q.dir q.stands.on_board (q.on_ray ∙ next.2)).0;
            free = next.3;
            man = λ e. (q.man e).1;
          } in
          let f = from_step b sets s next.0 one in
          (q.dir, (s, next.0, f.0, f.1, f.2))
