-- The enemy that a king meets is found on sets: it slides as far as it can, and the next square holds an enemy.
use Rattle.std.proofs.Common.{◌≡◌, ℕ, ◌<◌, zero, suc, List, [], ◌∷◌, length, refl, sym, ap, ◌∙◌, subst, inl, inr, ◌↔◌}
use Rattle.std.proofs.Common.{arith, Some, None, is_some}
use Rattle.std.proofs.lemmas.Bool.{true≢false}
use Rattle.std.specs.FinSet as fin
use Rattle.dw_board.specs.declared.board.Dir.{Dir}
use Rattle.dw_board.specs.declared.piece.Kind.TheVariants.{King}
use Rattle.dw_board.specs.declared.piece.Side.{Side}
use Rattle.dw_board.specs.Geometry.{Geometry, IsBoard, OnBoard, step, Squares}
use Rattle.dw_board.specs.Lists.{Member}
use Rattle.dw_board.specs.Placement.{Placement, at}
use Rattle.dw_board.specs.Slides.{SlidesTo}
use Rattle.dw_moves.specs.Moves.{In, ray}
use Rattle.dw_moves.specs.inner.Glance.{IsGround}
use Rattle.dw_moves.specs.inner.Plain.{TakesOver, king_takes}
use Rattle.dw_moves.proofs.ExactLemmas.{option_cases, takes_from}
use Rattle.dw_moves.proofs.FirstJumpLemmas.{empty_member, head_free}
use Rattle.dw_moves.proofs.GlanceRunLemmas.{IsShifted}
use Rattle.dw_moves.proofs.JumpStepLemmas.{Reached, reached_more, met_enemy}
use Rattle.dw_moves.proofs.KingSlideLemmas.{one_in, in_one}
use Rattle.dw_moves.proofs.RayLemmas.{ray_some}
use Rattle.dw_moves.proofs.SlideLemmas.{Walked, walk, ray_head, room_behind}
use Rattle.dw_moves.proofs.SquareSetLemmas.{in_and}
use Rattle.dw_moves.proofs.StepLemmas.{step_is}

-- where a king slides in a direction, and what it meets there
pub record Meets (g : Geometry) (from : ℕ) (d : Dir) (enemies occupied here reached next met : Squares) : Type 0 where
  pub here_is : here ≡ fin.insert fin.empty from
  pub reached_is : (t : ℕ) → In t reached ↔ ((n : ℕ) × (n < 8) × SlidesTo g here occupied d n t)
  pub next_is : IsShifted g reached d next
  pub met_is : met ≡ fin.intersection next enemies

module _ {g : Geometry} (b : IsBoard g) {p : Placement} {side : Side} {from : ℕ} {d : Dir}
    {enemies occupied here reached next met : Squares} (on : OnBoard g from) (ground : IsGround g p side enemies
    occupied) (m : Meets g from d enemies occupied here reached next met) where
  free_of : (t : ℕ) → OnBoard g t → (In t occupied → ⊥) → at p t ≡ None
  free_of t t_on out = elim (option_cases (at p t)) [
    | inl e ↦ e
    | inr q ↦ absurd (out ((ground.of_all t).1 (t_on, ap is_some q.1)))
  ]

  -- a slide leads over empty squares
  slid_reaches : (n t : ℕ) → SlidesTo g here occupied d n t → Reached g p d from t
  slid_reaches zero t r =
      let same : t ≡ from = in_one from t (subst (In t) m.here_is r) in
      subst (Reached g p d from) (sym same) (record { on = on; takes = λ side. refl })
  slid_reaches (suc n) t r =
      let h = slid_reaches n r.0 r.1 in
      let t_on : OnBoard g t = (step_is g b r.0 t d h.on r.2).on in
      reached_more g p d from r.0 t h (record {
        steps = r.2;
        on = t_on;
        ray_is = ray_some g b r.0 t d h.on r.2;
        free =
            free_of t t_on r.3;
      })

  -- what is met is taken over
  pub king_over : (c : ℕ) → In c met → TakesOver King g p side from d c
  king_over c i =
      let both = (in_and next enemies met c m.met_is).0 i in
      let last = (m.next_is c).0 both.0 in
      let slide = (m.reached_is last.0).0 last.1.0 in
      let h = slid_reaches slide.0 last.0 slide.2 in
      met_enemy g b p King side d from last.0 c enemies h.on (h.takes side) last.1.1 ground.of_enemies both.1

  -- what is taken over is met
  meets : (j : ℕ × ℕ) → Member j (king_takes p side (ray g from d)) → In j.0 met
  meets j i =
      let h = takes_from King p side (ray g from d) j i in
      let free : (x : ℕ) → Member x h.before → In x occupied
      → ⊥ = λ x k o. true≢false (sym ((ground.of_all x).0 o).1
      ∙ ap is_some (empty_member p h.before x h.clear k)) in
      let there : In from here = subst (In from) (sym m.here_is) (one_in from) in
      let w : Walked g here occupied d (length h.before) j.0 _ = walk g b here occupied d h.before 0 (length h.before)
      from j.0 _ (omega arith) there on h.is free in
      let behind = head_free p h.behind j.1 h.beyond h.clear_behind h.free in
      let further : step g j.0 d ≡ Some behind.0 = (ray_head g b j.0 behind.0 behind.1 d w.on (w.ray_is
      ∙ behind.2)).0 in
      let on_here : (s : ℕ) → In s here
      → OnBoard g s = λ s k. subst (OnBoard g) (sym (in_one from s (subst (In s) m.here_is k))) on in
      let few : length h.before < 8 = room_behind g b here occupied d on_here (length h.before) w.last j.0 behind.0
      w.runs w.steps further in
      (in_and next enemies met j.0 m.met_is).1 (
        (m.next_is j.0).1 (w.last, ((m.reached_is w.last).1 (length h.before, few, w.runs), w.steps)),
        (ground.of_enemies j.0).1 (w.on, h.enemy),
      )

  -- so nothing can be taken if nothing is met
  pub king_none : ((c : ℕ) → In c met → ⊥) → king_takes p side (ray g from d) ≡ []
  king_none none = no_member (king_takes p side (ray g from d)) (λ j i. none j.0 (meets j i)) where
    no_member : (xs : List (ℕ × ℕ)) → ((j : ℕ × ℕ) → Member j xs → ⊥) → xs ≡ []
    no_member [] f = refl
    no_member (x ∷ xs) f = absurd (f x (inl refl))
