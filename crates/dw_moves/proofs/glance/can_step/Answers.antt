use Rattle.std.proofs.Common.{inl, inr, refl}
use Rattle.dw_moves.specs.inner.Glance.{Steps}
use Rattle.dw_moves.proofs.FirstStepLemmas.{can_step_if}
use Rattle.dw_moves.proofs.OrChainLemmas.{some_dir}
use Rattle.dw_moves.proofs.glance.can_step.Goals as goal
use Rattle.dw_moves.proofs.glance.can_step.Goals.{then-steps, else-steps, then-steps-2, else-steps-2}

pub returns-then-steps-3 : goal.returns-then-steps-3
returns-then-steps-3 g c =
    let f = c.of-field.result in
    can_step_if g.met.B.Board.numbers c.of-field.ensures.sets c.turn-side.ensures.value
    (some_dir (Steps g.B.Board.geometry c.turn-side.result f.men f.kings f.occupied) c.steps.result
    c.if-steps.value c.if-steps-2.value c.if-steps-2.value c.steps.ensures
    (elim c.if-steps.branch [
      | then-steps w ↦ inl (w.if-steps.true, w.value-is)
      | else-steps w ↦ inr (_, w.if-steps.false, w.value-is, w.steps-else-steps.ensures)
    ]) (elim c.if-steps-2.branch [
      | then-steps-2 w ↦ inl (w.if-steps-2.true, w.value-is)
      | else-steps-2 w ↦ inr (_, w.if-steps-2.false, w.value-is, w.steps-else-steps-2.ensures)
    ]) (inl (c.if-steps-3.true, refl)))

pub returns-else-steps-3 : goal.returns-else-steps-3
returns-else-steps-3 g c =
    let f = c.of-field.result in
    can_step_if g.met.B.Board.numbers c.of-field.ensures.sets c.turn-side.ensures.value
    (some_dir (Steps g.B.Board.geometry c.turn-side.result f.men f.kings f.occupied) c.steps.result
    c.if-steps.value c.if-steps-2.value c.steps-else-steps-3.result c.steps.ensures
    (elim c.if-steps.branch [
      | then-steps w ↦ inl (w.if-steps.true, w.value-is)
      | else-steps w ↦ inr (_, w.if-steps.false, w.value-is, w.steps-else-steps.ensures)
    ]) (elim c.if-steps-2.branch [
      | then-steps-2 w ↦ inl (w.if-steps-2.true, w.value-is)
      | else-steps-2 w ↦ inr (_, w.if-steps-2.false, w.value-is, w.steps-else-steps-2.ensures)
    ]) (inr (_, c.if-steps-3.false, refl, c.steps-else-steps-3.ensures)))
