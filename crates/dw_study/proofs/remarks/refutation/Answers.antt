use Rattle.std.proofs.Common.{map, sym, ap, ◌∙◌, subst, arith}
use Rattle.dw_moves.specs.Moves.{Legal, play}
use Rattle.dw_moves.specs.Order.{Precedes, IsListOf}
use Rattle.dw_verdict.specs.inner.GatheredLemmas.{item_among}
use Rattle.dw_study.specs.Remarks.{IsFirstRefutation}
use Rattle.dw_study.proofs.SeenLemmas.{won_more, won_all, first_found, no_win, a_win}
use Rattle.dw_solve.specs.inner.QuestionLemmas.{answered, asked_none, asked_ok, asked_stop}
use Rattle.dw_study.proofs.AskedLemmas.{asked_on}
use Rattle.dw_study.proofs.remarks.refutation.Goals as goal

pub play-after-requires : goal.play-after-requires
play-after-requires g c =
    let geo = g.B.Board.geometry in
    let q = c.args.position.now in
    let all = subst (λ z. IsListOf (Precedes geo q) (Legal geo q) (map (λ item. item.step) z))
    (sym c.as_slice-reply-items.ensures.value) c.in_ok-list.ensures.in_order in
    subst (Legal geo q) (sym (ap (λ l. l.step) c.reply.view_is))
    (item_among (λ item. item.step) (Precedes geo q) (Legal geo q) c.as_slice-reply-items.result.now
    c.replies.reply-index c.reply-item.result all c.replies-test.true c.reply-item.is)

pub replies-init : goal.replies-init
replies-init g c = record {
  won = λ m none. absurd none;
  asked = asked_none g.B.Board.geometry g.M.Memo.content g.M.Memo.dropped c.searches_add_up.ensures c.args.left
      c.args.solver.now c.keeps_its_limit.ensures;
}

pub replies-preserved : goal.replies-preserved
replies-preserved g c =
    let geo = g.B.Board.geometry in
    let q = c.args.position.now in
    let n = c.args.left in
    let here = c.in_ok-wins.ensures in
    let is = ap (λ l. l.step) c.reply.view_is in
    record {
      won = won_more (λ item. item.step) geo q n c.as_slice-reply-items.result.now c.replies.reply-index
          c.reply-item.result c.replies-test.true c.reply-item.is
          (a_win geo q c.play-after.result n c.reply-item.result.step c.in_ok-wins.field-0
          (c.play-after.ensures ∙ ap (play geo q) is) here.answer c.if-not-branch.false) c.replies.invariant.won;
      asked = asked_on c.searches_add_up.ensures geo g.M.Memo.content g.M.Memo.dropped n n c.args.solver.now
          c.replies.solver c.wins.new.self answered (omega arith) c.replies.invariant.asked (asked_ok geo
          g.M.Memo.content g.M.Memo.dropped n c.replies.solver c.wins.new.self c.in_ok-wins.field-0 0 here.asked);
    }

pub returns-then-not-branch-clause-found : goal.returns-then-not-branch-clause-found
returns-then-not-branch-clause-found g c =
    let geo = g.B.Board.geometry in
    let q = c.args.position.now in
    let n = c.args.left in
    let all = subst (λ z. IsListOf (Precedes geo q) (Legal geo q) (map (λ item. item.step) z))
    (sym c.as_slice-reply-items.ensures.value) c.in_ok-list.ensures.in_order in
    let is = ap (λ l. l.step) c.reply.view_is in
    subst (IsFirstRefutation geo q n) (sym is)
    (first_found (λ item. item.step) geo q n c.as_slice-reply-items.result.now c.replies.reply-index
    c.reply-item.result all c.replies-test.true c.reply-item.is
    (no_win geo q c.play-after.result n c.reply-item.result.step c.in_ok-wins.field-0
    (c.play-after.ensures ∙ ap (play geo q) is) c.in_ok-wins.ensures.answer c.if-not-branch.true)
    c.replies.invariant.won)

pub returns-clause-found : goal.returns-clause-found
returns-clause-found g c =
    let geo = g.B.Board.geometry in
    let q = c.args.position.now in
    let all = subst (λ z. IsListOf (Precedes geo q) (Legal geo q) (map (λ item. item.step) z))
    (sym c.as_slice-reply-items.ensures.value) c.in_ok-list.ensures.in_order in
    won_all (λ item. item.step) geo q c.args.left c.as_slice-reply-items.result.now c.replies.reply-index all
    (omega (arith, c.replies-test.false)) c.replies.invariant.won

pub returns-in_err-wins-clause-asked : goal.returns-in_err-wins-clause-asked
returns-in_err-wins-clause-asked g c =
    let geo = g.B.Board.geometry in
    let n = c.args.left in
    let here = c.in_err-wins.ensures in
    asked_on c.searches_add_up.ensures geo g.M.Memo.content g.M.Memo.dropped n n
    c.args.solver.now c.replies.solver c.wins.new.self c.from_residual-in_err-wins.result (omega
    arith) c.replies.invariant.asked
    (asked_stop geo g.M.Memo.content g.M.Memo.dropped n c.replies.solver
    c.wins.new.self c.in_err-wins.field-0.0 c.from_residual-in_err-wins.result
    c.from_residual-in_err-wins.ensures.1
    here.asked)

pub returns-then-not-branch-clause-asked : goal.returns-then-not-branch-clause-asked
returns-then-not-branch-clause-asked g c =
    let geo = g.B.Board.geometry in
    let n = c.args.left in
    let here = c.in_ok-wins.ensures in
    asked_on c.searches_add_up.ensures geo g.M.Memo.content g.M.Memo.dropped n n
    c.args.solver.now c.replies.solver c.wins.new.self _ (omega arith) c.replies.invariant.asked
    (asked_ok geo g.M.Memo.content g.M.Memo.dropped n c.replies.solver
    c.wins.new.self c.in_ok-wins.field-0 _
    here.asked)

pub returns-clause-asked : goal.returns-clause-asked
returns-clause-asked g c =
    asked_ok g.B.Board.geometry g.M.Memo.content g.M.Memo.dropped c.args.left
    c.args.solver.now c.replies.solver 0 _ c.replies.invariant.asked
