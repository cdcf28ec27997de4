use Rattle.std.proofs.Common.{subst, sym}
use Rattle.dw_list.specs.StackWalk.{SameToCome}
use Rattle.dw_list.specs.inner.StackWalk.{HasStepped}
use Rattle.dw_solve.specs.inner.QuestionLemmas.{answered, asked_none, asked_then, asked_ok, asked_stop, asked_for}
use Rattle.dw_list.proofs.StepLemmas.{same_none, same_then, same_to_come, if_stopped, gives_none, gives_first}
use Rattle.dw_list.proofs.walk.walk.Goals as goal

pub returns-in_err-take_step-clause-asked : goal.returns-in_err-take_step-clause-asked
returns-in_err-take_step-clause-asked g c =
    let geo = g.B.Board.geometry in
    let content = g.M.Memo.content in
    let lost = g.M.Memo.dropped in
    let n = c.args.stack.now.moves in
    asked_then geo content lost c.searches_add_up.ensures n _ _ _ _ c.steps.invariant.asked
    (asked_stop geo content lost n _ _ c.in_err-take_step.field-0.0 _ c.from_residual.ensures.1
    (asked_for geo content lost _ n _ _ _ c.steps.invariant.same.moves c.in_err-take_step.ensures.asked))

pub returns-in-Over-clause-next : goal.returns-in-Over-clause-next
returns-in-Over-clause-next g c =
    let geo = g.B.Board.geometry in
    let met = subst (λ z. HasStepped geo z c.steps.stack c.take_step.new.stack) c.in-Over.is
    c.in_ok-take_step.ensures.stepped in
    gives_none geo c.args.stack.now c.steps.stack c.take_step.new.stack c.steps.invariant.same met.0 met.1

pub returns-in-Over-clause-asked : goal.returns-in-Over-clause-asked
returns-in-Over-clause-asked g c =
    let geo = g.B.Board.geometry in
    let content = g.M.Memo.content in
    let lost = g.M.Memo.dropped in
    let n = c.args.stack.now.moves in
    asked_then geo content lost c.searches_add_up.ensures n _ _ _ _ c.steps.invariant.asked
    (asked_ok geo content lost n _ _ c.in_ok-take_step.field-0 _
    (asked_for geo content lost _ n _ _ _ c.steps.invariant.same.moves c.in_ok-take_step.ensures.asked))

pub returns-in-Given-clause-next : goal.returns-in-Given-clause-next
returns-in-Given-clause-next g c =
    let geo = g.B.Board.geometry in
    let met = subst (λ z. HasStepped geo z c.steps.stack c.take_step.new.stack) c.in-Given.is
    c.in_ok-take_step.ensures.stepped in
    gives_first c.moves_have_keys.ensures geo c.args.stack.now c.steps.stack c.take_step.new.stack
    c.steps.invariant.same met

pub returns-in-Given-clause-asked : goal.returns-in-Given-clause-asked
returns-in-Given-clause-asked g c =
    let geo = g.B.Board.geometry in
    let content = g.M.Memo.content in
    let lost = g.M.Memo.dropped in
    let n = c.args.stack.now.moves in
    asked_then geo content lost c.searches_add_up.ensures n _ _ _ _ c.steps.invariant.asked
    (asked_ok geo content lost n _ _ c.in_ok-take_step.field-0 _
    (asked_for geo content lost _ n _ _ _ c.steps.invariant.same.moves c.in_ok-take_step.ensures.asked))

pub steps-preserved : goal.steps-preserved
steps-preserved g c =
    let geo = g.B.Board.geometry in
    let content = g.M.Memo.content in
    let lost = g.M.Memo.dropped in
    let n = c.args.stack.now.moves in
    let met = subst (λ z. HasStepped geo z c.steps.stack c.take_step.new.stack) c.in-On.is
    c.in_ok-take_step.ensures.stepped in
    record {
      same = same_then geo c.args.stack.now c.steps.stack c.take_step.new.stack c.steps.invariant.same met;
      asked = asked_then geo content lost c.searches_add_up.ensures n _ _ _ answered c.steps.invariant.asked
          (asked_ok geo content lost n _ _ c.in_ok-take_step.field-0 0
          (asked_for geo content lost _ n _ _ _ c.steps.invariant.same.moves c.in_ok-take_step.ensures.asked));
    }

pub steps-init : goal.steps-init
steps-init g c = record {
  same = same_none g.B.Board.geometry c.args.stack.now;
  asked = asked_none g.B.Board.geometry g.M.Memo.content g.M.Memo.dropped c.searches_add_up.ensures
      c.args.stack.now.moves c.args.solver.now c.keeps_its_limit.ensures;
}

pub returns-in_err-take_step-clause-stopped : goal.returns-in_err-take_step-clause-stopped
returns-in_err-take_step-clause-stopped g c =
    let geo = g.B.Board.geometry in
    if_stopped c.from_residual.result _ (subst (SameToCome geo c.args.stack.now)
    (sym c.in_err-take_step.ensures.stopped) (same_to_come geo c.args.stack.now c.steps.stack c.steps.invariant.same))
