use Rattle.std.proofs.Common.{ℕ, ◌↔◌, ◌∙◌, ap, refl, sym, subst}
use Rattle.std.proofs.lemmas.Bool.{true≢false}
use Rattle.dw_board.specs.Geometry.{step}
use Rattle.dw_moves.specs.Moves.{In, Legal, play}
use Rattle.dw_moves.specs.inner.Glance.{StepsOn}
use Rattle.dw_moves.specs.Replies.{HasSureReply, IsSureStep}
use Rattle.dw_moves.proofs.SureStepLemmas.{all_left, goal_step, legal_step, none_begun, one_tried}
use Rattle.dw_moves.proofs.SquareSetLemmas.{fewer_left, in_none}
use Rattle.dw_moves.proofs.replies.sure_towards.Goals as goal

pub goals-init : goal.goals-init
goals-init g c =
    let f = c.args.field.now in
    all_left g.met.B.Board.numbers c.requires.sets c.args.direction (subst (λ z. (t : ℕ) → In t c.next_free-left.result
    ↔ StepsOn g.B.Board.geometry z f.men f.kings f.occupied c.args.direction t) c.turn.ensures.value
    c.next_free-left.ensures)

pub play-after-requires : goal.play-after-requires
play-after-requires g c =
    let leads = ap (step g.B.Board.geometry _) (sym c.opposite-back.ensures)
    ∙ (sym c.step.ensures ∙ c.in-Some-step.is) in
    subst (Legal g.B.Board.geometry c.args.position.now) (sym c.quiet-found.ensures)
    (legal_step g.B.Board.geometry g.met.B.Board.numbers c.args.position.now _ _ c.requires.quiet
    (goal_step g.met.B.Board.numbers c.requires.sets c.args.direction c.goals.invariant _ _ c.in-Some.ensures.member
    leads))

pub returns-then-has_sure_reply-clause-legal : goal.returns-then-has_sure_reply-clause-legal
returns-then-has_sure_reply-clause-legal g c =
    let leads = ap (step g.B.Board.geometry _) (sym c.opposite-back.ensures)
    ∙ (sym c.step.ensures ∙ c.in-Some-step.is) in
    subst (Legal g.B.Board.geometry c.args.position.now) (sym c.quiet-found.ensures)
    (legal_step g.B.Board.geometry g.met.B.Board.numbers c.args.position.now _ _ c.requires.quiet
    (goal_step g.met.B.Board.numbers c.requires.sets c.args.direction c.goals.invariant _ _ c.in-Some.ensures.member
    leads))

pub returns-then-has_sure_reply-clause-some : goal.returns-then-has_sure_reply-clause-some
returns-then-has_sure_reply-clause-some g c =
    let leads = ap (step g.B.Board.geometry _) (sym c.opposite-back.ensures)
    ∙ (sym c.step.ensures ∙ c.in-Some-step.is) in
    let sure = subst (HasSureReply g.B.Board.geometry) (c.play-after.ensures
    ∙ ap (play g.B.Board.geometry c.args.position.now) c.quiet-found.ensures)
    (c.has_sure_reply.ensures.exact.0 c.if-has_sure_reply.true) in
    subst (IsSureStep g.B.Board.geometry c.args.position.now) (sym c.quiet-found.ensures) (
      goal_step g.met.B.Board.numbers c.requires.sets c.args.direction c.goals.invariant _ _ c.in-Some.ensures.member
          leads,
      refl,
      sure,
    )

pub goals-smaller-else-has_sure_reply : goal.goals-smaller-else-has_sure_reply
goals-smaller-else-has_sure_reply g c = fewer_left _ _ c.in-Some.ensures.rest c.in-Some.ensures.member

pub goals-preserved-else-has_sure_reply : goal.goals-preserved-else-has_sure_reply
goals-preserved-else-has_sure_reply g c =
    let leads = ap (step g.B.Board.geometry _) (sym c.opposite-back.ensures)
    ∙ (sym c.step.ensures ∙ c.in-Some-step.is) in
    one_tried g.met.B.Board.numbers c.requires.sets c.args.direction c.goals.invariant _ _ c.in-Some.ensures.rest leads
    (λ sure. true≢false (sym (c.has_sure_reply.ensures.exact.1 (subst (HasSureReply g.B.Board.geometry)
    (sym (c.play-after.ensures ∙ ap (play g.B.Board.geometry c.args.position.now) c.quiet-found.ensures)) sure))
    ∙ c.if-has_sure_reply.false))

pub goals-smaller : goal.goals-smaller
goals-smaller g c = fewer_left _ _ c.in-Some.ensures.rest c.in-Some.ensures.member

pub goals-preserved : goal.goals-preserved
goals-preserved g c =
    let leads = ap (step g.B.Board.geometry _) (sym c.opposite-back.ensures)
    ∙ (sym c.step.ensures ∙ c.in_default-step.is) in
    absurd (none_begun g.met.B.Board.numbers c.requires.sets c.args.direction c.goals.invariant _
    c.in-Some.ensures.member leads)

pub returns-clause-none : goal.returns-clause-none
returns-clause-none g c = λ _ s t h out sure. c.goals.invariant.tried s t h
    (λ m. in_none c.goals.left t (c.in_default.ensures.none.0 refl) m) sure
