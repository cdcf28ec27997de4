use Rattle.std.proofs.Common.{◌+◌, map, sym, ap, ◌∙◌, subst, arith}
use Rattle.dw_moves.specs.Moves.{Legal, play}
use Rattle.dw_moves.specs.Order.{Precedes, IsListOf}
use Rattle.dw_solve.specs.Wins.{Win}
use Rattle.dw_verdict.specs.inner.GatheredLemmas.{GatheredTo, item_among, to_more, to_same}
use Rattle.dw_solve.specs.inner.CountLemmas.{counted_then}
use Rattle.dw_first_moves.proofs.EffectLemmas.{a_win, no_win, refuting}
use Rattle.dw_first_moves.proofs.effects.refutations.Goals.{then-not-branch+in_ok-push, else-not-branch}
use Rattle.dw_first_moves.proofs.effects.refutations.Goals as goal

pub play-requires : goal.play-requires
play-requires g c =
    let geo = g.B.Board.geometry in
    let q = c.args.after.now in
    let all = subst (λ z. IsListOf (Precedes geo q) (Legal geo q) (map (λ item. item.step) z))
    (sym c.as_slice-reply-items.ensures.value) c.in_ok-list.ensures.in_order in
    subst (Legal geo q) (sym (ap (λ l. l.step) c.reply.view_is))
    (item_among (λ item. item.step) (Precedes geo q) (Legal geo q) c.as_slice-reply-items.result.now
    c.replies.reply-index c.reply-item.result all c.replies-test.true c.reply-item.is)

pub replies-preserved : goal.replies-preserved
replies-preserved g c =
    let geo = g.B.Board.geometry in
    let q = c.args.after.now in
    let n = c.args.left in
    let items = c.as_slice-reply-items.result.now in
    let i = c.replies.reply-index in
    let all = subst (λ z. IsListOf (Precedes geo q) (Legal geo q) (map (λ item. item.step) z))
    (sym c.as_slice-reply-items.ensures.value) c.in_ok-list.ensures.in_order in
    let here = c.in_ok-wins.ensures in
    let is = ap (λ l. l.step) c.reply.view_is in
    let there = c.play.ensures ∙ ap (play geo q) is in
    record {
      found = elim c.if-not-branch.branch [
        | then-not-branch+in_ok-push w ↦
            subst (GatheredTo (λ item. item.step) (Precedes geo q) (λ m. m) (λ m. Win geo (play geo q m) n → ⊥) items
            (i + 1)) (sym (ap (λ v. v.items) w.replies-is ∙ w.in_ok-push.ensures))
            (to_more (λ item. item.step) (Precedes geo q) (λ m. m) (λ m. Win geo (play geo q m) n → ⊥) items i
            c.reply-item.result c.replies.replies.items c.reply.inside.step all.ascending c.replies-test.true
            c.reply-item.is is
            (subst (λ m. Win geo (play geo q m) n → ⊥) (sym is)
            (no_win geo q c.play.result n c.reply-item.result.step c.in_ok-wins.field-0 there here.answer
            w.if-not-branch.true)) (λ z e h. e ∙ sym is) c.replies.invariant.found)
        | else-not-branch w ↦
            subst (GatheredTo (λ item. item.step) (Precedes geo q) (λ m. m) (λ m. Win geo (play geo q m) n → ⊥) items
            (i + 1)) (sym (ap (λ v. v.items) w.replies-is))
            (to_same (λ item. item.step) (Precedes geo q) (λ m. m) (λ m. Win geo (play geo q m) n → ⊥) items i
            c.reply-item.result c.replies.replies.items c.replies-test.true c.reply-item.is
            (λ z e h. h (subst (λ m. Win geo (play geo q m) n) (sym e)
            (a_win geo q c.play.result n c.reply-item.result.step c.in_ok-wins.field-0 there here.answer
            w.if-not-branch.false))) c.replies.invariant.found)
      ];
      count = counted_then _ _ _ _ _ _ c.replies.invariant.count here.asked.count;
      right = here.right;
      map = here.map;
    }

pub returns-clause-replies : goal.returns-clause-replies
returns-clause-replies g c =
    let geo = g.B.Board.geometry in
    let q = c.args.after.now in
    let all = subst (λ z. IsListOf (Precedes geo q) (Legal geo q) (map (λ item. item.step) z))
    (sym c.as_slice-reply-items.ensures.value) c.in_ok-list.ensures.in_order in
    refuting (λ item. item.step) geo q c.args.left c.as_slice-reply-items.result.now c.replies.reply-index
    c.replies.replies.items (omega (arith, c.replies-test.false)) all c.replies.invariant.found
