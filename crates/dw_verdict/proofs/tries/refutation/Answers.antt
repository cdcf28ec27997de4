use Rattle.std.proofs.Common.{◌+◌, sym, subst, refl, arith}
use Rattle.dw_solve.specs.Ranking.{AreRanked}
use Rattle.dw_solve.specs.inner.QuestionLemmas.{answered, asked_then, asked_ok, asked_stop, asked_memory, asked_none}
use Rattle.dw_verdict.proofs.RefutingLemmas.{FoundTo, found_first, found_same, found_second, found_all, legal_at}
use Rattle.dw_verdict.proofs.RefutingLemmas.{refutes_if, refutes_not}
use Rattle.dw_verdict.proofs.tries.refutation.Goals.{then-not-branch+in-None, else-not-branch}
use Rattle.dw_verdict.proofs.tries.refutation.Goals as goal

pub play-after-requires : goal.play-after-requires
play-after-requires g c =
    let geo = g.B.Board.geometry in
    let q = c.args.position.now in
    let all = subst (AreRanked geo q) (sym c.moves-reply-items.ensures) c.in_ok-line_up.ensures.ranked in
    legal_at (λ r. r.1) geo q c.moves-reply-items.result.now c.replies.reply-index c.reply-item.result all
    c.replies-test.true c.reply-item.is

pub returns-in_err-wins-clause-asked : goal.returns-in_err-wins-clause-asked
returns-in_err-wins-clause-asked g c =
    let geo = g.B.Board.geometry in
    let content = g.M.Memo.content in
    let lost = g.M.Memo.dropped in
    asked_then geo content lost c.searches_add_up.ensures c.args.left c.args.solver.now c.replies.solver
    c.wins.new.self c.from_residual-in_err-wins.result c.replies.invariant.asked
    (asked_stop geo content lost c.args.left c.replies.solver c.wins.new.self c.in_err-wins.field-0.0
    c.from_residual-in_err-wins.result c.from_residual-in_err-wins.ensures.1
    c.in_err-wins.ensures.asked)

pub returns-in-Some-clause-found : goal.returns-in-Some-clause-found
returns-in-Some-clause-found g c =
    let geo = g.B.Board.geometry in
    let q = c.args.position.now in
    let n = c.args.left in
    let items = c.moves-reply-items.result.now in
    let all = subst (AreRanked geo q) (sym c.moves-reply-items.ensures) c.in_ok-line_up.ensures.ranked in
    let legal = legal_at (λ r. r.1) geo q items c.replies.reply-index c.reply-item.result all c.replies-test.true
    c.reply-item.is in
    let here = refutes_if geo q c.play-after.result n c.reply-item.result.1 c.in_ok-wins.field-0 legal
    c.play-after.ensures c.in_ok-wins.ensures.answer c.if-not-branch.true in
    found_second (λ r. r.1) geo q n items c.replies.reply-index c.reply-item.result _ c.reply-item.result.1 all.once
    c.replies-test.true c.reply-item.is refl here
    (subst (FoundTo (λ r. r.1) geo q n items c.replies.reply-index) c.in-Some.is c.replies.invariant.found)

pub returns-in-Some-clause-asked : goal.returns-in-Some-clause-asked
returns-in-Some-clause-asked g c =
    let geo = g.B.Board.geometry in
    let content = g.M.Memo.content in
    let lost = g.M.Memo.dropped in
    asked_then geo content lost c.searches_add_up.ensures c.args.left c.args.solver.now c.replies.solver
    c.wins.new.self _ c.replies.invariant.asked
    (asked_ok geo content lost c.args.left c.replies.solver c.wins.new.self c.in_ok-wins.field-0 _
    c.in_ok-wins.ensures.asked)

pub replies-preserved : goal.replies-preserved
replies-preserved g c =
    let geo = g.B.Board.geometry in
    let content = g.M.Memo.content in
    let lost = g.M.Memo.dropped in
    let q = c.args.position.now in
    let n = c.args.left in
    let items = c.moves-reply-items.result.now in
    let all = subst (AreRanked geo q) (sym c.moves-reply-items.ensures) c.in_ok-line_up.ensures.ranked in
    let legal = legal_at (λ r. r.1) geo q items c.replies.reply-index c.reply-item.result all c.replies-test.true
    c.reply-item.is in
    record {
      found = elim c.if-not-branch.branch [
        | then-not-branch+in-None w ↦
            let here = refutes_if geo q c.play-after.result n c.reply-item.result.1 c.in_ok-wins.field-0 legal
            c.play-after.ensures c.in_ok-wins.ensures.answer w.if-not-branch.true in
            subst (FoundTo (λ r. r.1) geo q n items (c.replies.reply-index + 1)) (sym w.found-is)
            (found_first (λ r. r.1) geo q n items c.replies.reply-index c.reply-item.result c.reply-item.result.1
            c.replies-test.true c.reply-item.is refl here
            (subst (FoundTo (λ r. r.1) geo q n items c.replies.reply-index) w.in-None.is c.replies.invariant.found))
        | else-not-branch w ↦
            subst (FoundTo (λ r. r.1) geo q n items (c.replies.reply-index + 1)) (sym w.found-is)
            (found_same (λ r. r.1) geo q n items c.replies.reply-index c.reply-item.result c.replies.found
            c.replies-test.true c.reply-item.is
            (refutes_not geo q c.play-after.result n c.reply-item.result.1 c.in_ok-wins.field-0
            c.play-after.ensures c.in_ok-wins.ensures.answer w.if-not-branch.false) c.replies.invariant.found)
      ];
      asked = asked_then geo content lost c.searches_add_up.ensures n c.args.solver.now c.replies.solver
          c.wins.new.self answered c.replies.invariant.asked
          (asked_ok geo content lost n c.replies.solver c.wins.new.self c.in_ok-wins.field-0 0
          c.in_ok-wins.ensures.asked);
    }

pub returns-clause-found : goal.returns-clause-found
returns-clause-found g c =
    let geo = g.B.Board.geometry in
    let q = c.args.position.now in
    let all = subst (AreRanked geo q) (sym c.moves-reply-items.ensures) c.in_ok-line_up.ensures.ranked in
    found_all (λ r. r.1) geo q c.args.left c.moves-reply-items.result.now c.replies.reply-index c.replies.found
    (omega (arith, c.replies-test.false)) all c.replies.invariant.found

pub returns-in_err-line_up-clause-asked : goal.returns-in_err-line_up-clause-asked
returns-in_err-line_up-clause-asked g c =
    let geo = g.B.Board.geometry in
    let content = g.M.Memo.content in
    let lost = g.M.Memo.dropped in
    let none = asked_none geo content lost c.searches_add_up.ensures c.args.left c.args.solver.now
    c.keeps_its_limit.ensures in
    asked_memory geo content lost c.args.left _ _ _ c.from_residual.ensures.1 none

pub returns-clause-asked : goal.returns-clause-asked
returns-clause-asked g c = asked_ok g.B.Board.geometry g.M.Memo.content g.M.Memo.dropped c.args.left _ _ 0 _
    c.replies.invariant.asked
