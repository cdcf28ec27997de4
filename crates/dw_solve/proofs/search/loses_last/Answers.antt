use Rattle.std.proofs.Common.{refl, sym, subst, false}
use Rattle.dw_moves.specs.Moves.{play}
use Rattle.dw_solve.specs.inner.CountLemmas.{counted_then}
use Rattle.dw_solve.specs.Wins.{Win, Lost}
use Rattle.dw_solve.specs.inner.Ranking.{AreLinedUpLast}
use Rattle.dw_solve.specs.inner.Searching.{at_time}
use Rattle.dw_solve.proofs.OpenLemmas.{last_ranked}
use Rattle.dw_solve.proofs.RankLemmas.{ranked_legal, below_more, below_all}
use Rattle.dw_solve.proofs.StepLemmas.{searched_on, searched_ok, searched_err}
use Rattle.dw_solve.proofs.TriedLemmas.{Answered, answered_more, says_refuted}
use Rattle.dw_solve.proofs.SearchLemmas.{answer_no, answer_yes, is_so, is_not, ok_is_no_err}
use Rattle.dw_solve.proofs.WinLemmas.{hopeless_is}
use Rattle.dw_solve.proofs.WorkLemmas.{searched_none}
use Rattle.dw_solve.proofs.search.loses_last.Goals as goal

pub returns-in-Some-clause-answer : goal.returns-in-Some-clause-answer
returns-in-Some-clause-answer g c =
    let geo = g.B.Board.geometry in
    let sure = subst (AreLinedUpLast geo c.args.position.now c.line_up_last.new.ply.ranked.items) c.in-Some.is
    c.in_ok-after.ensures in
    answer_no (Lost geo c.args.position.now 1) (λ lost. hopeless_is geo c.in-Some.after 1 refl sure.3
    (subst (λ q. Win geo q 1) (sym sure.2) (lost sure.0 sure.1)))

pub returns-in-Some-clause-says : goal.returns-in-Some-clause-says
returns-in-Some-clause-says g c kept =
    let geo = g.B.Board.geometry in
    let sure = subst (AreLinedUpLast geo c.args.position.now c.line_up_last.new.ply.ranked.items) c.in-Some.is
    c.in_ok-after.ensures in
    let before = at_time g.M.Memo.content g.M.Memo.dropped c.args.search.now in
    let after = at_time g.M.Memo.content g.M.Memo.dropped c.refute.new.search in
    says_refuted geo 1 c.args.position.now sure.0 c.in-Some.after false before before after
    (searched_none geo 1 0 before) c.in_ok-refute.ensures.searched.work sure.1 sure.2 refl
    c.in_ok-refute.ensures.says kept

pub play-requires : goal.play-requires
play-requires g c =
    ranked_legal g.B.Board.geometry c.args.position.now c.as_slice-candidate-items.result.now
    c.replies.candidate-index c.candidate-item.result
    (last_ranked g.B.Board.geometry c.args.position.now c.line_up_last.new.ply.ranked.items
    c.as_slice-candidate-items.result.now _ c.in_ok-after.ensures c.in_default.is
    c.as_slice-candidate-items.ensures.value) c.replies-test.true c.candidate-item.is

pub returns-in_err-wins_last-clause-searched : goal.returns-in_err-wins_last-clause-searched
returns-in_err-wins_last-clause-searched g c =
    let geo = g.B.Board.geometry in
    let content = g.M.Memo.content in
    let lost = g.M.Memo.dropped in
    searched_err geo content lost 1 _ _ c.in_err-wins_last.field-0.0 _ c.from_residual-in_err-wins_last.ensures.1
    (searched_on geo content lost 1 c.args.search.now c.replies.search c.wins_last.new.search _ (record {
      right = c.replies.invariant.0;
      count = c.replies.invariant.1.0;
      stop = λ e. absurd (ok_is_no_err _ _ e);
      work = c.replies.invariant.1.1.1.0;
    }) c.in_err-wins_last.ensures.searched)

pub returns-then-not-branch-clause-answer : goal.returns-then-not-branch-clause-answer
returns-then-not-branch-clause-answer g c =
    let geo = g.B.Board.geometry in
    let legal = ranked_legal geo c.args.position.now c.as_slice-candidate-items.result.now
    c.replies.candidate-index c.candidate-item.result
    (last_ranked geo c.args.position.now c.line_up_last.new.ply.ranked.items
    c.as_slice-candidate-items.result.now _ c.in_ok-after.ensures c.in_default.is
    c.as_slice-candidate-items.ensures.value) c.replies-test.true c.candidate-item.is in
    answer_no (Lost geo c.args.position.now 1) (λ lost.
    is_not c.in_ok-wins_last.field-0 _ c.in_ok-wins_last.ensures.answer c.if-not-branch.true
    (subst (λ q. Win geo q 1) (sym c.play.ensures) (lost c.candidate-item.result.1 legal)))

pub returns-then-not-branch-clause-searched : goal.returns-then-not-branch-clause-searched
returns-then-not-branch-clause-searched g c =
    let geo = g.B.Board.geometry in
    let content = g.M.Memo.content in
    let lost = g.M.Memo.dropped in
    searched_ok geo content lost 1 _ _ _ _
    (searched_on geo content lost 1 c.args.search.now c.replies.search c.wins_last.new.search _ (record {
      right = c.replies.invariant.0;
      count = c.replies.invariant.1.0;
      stop = λ e. absurd (ok_is_no_err _ _ e);
      work = c.replies.invariant.1.1.1.0;
    }) c.in_ok-wins_last.ensures.searched)

pub returns-then-not-branch-clause-says : goal.returns-then-not-branch-clause-says
returns-then-not-branch-clause-says g c =
    let geo = g.B.Board.geometry in
    let legal = ranked_legal geo c.args.position.now c.as_slice-candidate-items.result.now
    c.replies.candidate-index c.candidate-item.result
    (last_ranked geo c.args.position.now c.line_up_last.new.ply.ranked.items
    c.as_slice-candidate-items.result.now _ c.in_ok-after.ensures c.in_default.is
    c.as_slice-candidate-items.ensures.value) c.replies-test.true c.candidate-item.is in
    says_refuted geo 1 c.args.position.now c.candidate-item.result.1 c.play.result c.in_ok-wins_last.field-0 _ _ _
    c.replies.invariant.1.1.1.0 c.in_ok-wins_last.ensures.searched.work legal c.play.ensures c.if-not-branch.true
    c.in_ok-wins_last.ensures.says

pub replies-preserved : goal.replies-preserved
replies-preserved g c =
    let geo = g.B.Board.geometry in
    let content = g.M.Memo.content in
    let lost = g.M.Memo.dropped in
    let won = subst (λ q. Win geo q 1) c.play.ensures
    (is_so c.in_ok-wins_last.field-0 _ c.in_ok-wins_last.ensures.answer c.if-not-branch.false) in (
      c.in_ok-wins_last.ensures.searched.right,
      (
        counted_then c.args.search.now.expanded c.args.search.now.limit c.replies.search.expanded c.replies.search.limit
            c.wins_last.new.search.expanded c.wins_last.new.search.limit c.replies.invariant.1.0
            c.in_ok-wins_last.ensures.searched.count,
        (
          below_more (λ r. Win geo (play geo c.args.position.now r) 1) c.as_slice-candidate-items.result.now
              c.replies.candidate-index c.candidate-item.result c.replies.invariant.1.1.0 c.replies-test.true
              c.candidate-item.is won,
          answered_more geo 1 c.args.position.now c.as_slice-candidate-items.result.now
              c.replies.candidate-index c.candidate-item.result c.play.result c.in_ok-wins_last.field-0
              (at_time content lost c.args.search.now) (at_time content lost c.replies.search)
              (at_time content lost c.wins_last.new.search)
              c.replies.invariant.1.1.1 c.replies-test.true c.candidate-item.is c.play.ensures c.if-not-branch.false
              c.in_ok-wins_last.ensures.searched.work c.in_ok-wins_last.ensures.says,
        ),
      ),
    )

pub returns-clause-answer : goal.returns-clause-answer
returns-clause-answer g c =
    let geo = g.B.Board.geometry in
    let all = last_ranked geo c.args.position.now c.line_up_last.new.ply.ranked.items
    c.as_slice-candidate-items.result.now _ c.in_ok-after.ensures c.in_default.is
    c.as_slice-candidate-items.ensures.value in
    answer_yes (Lost geo c.args.position.now 1)
    (below_all geo c.args.position.now (λ r. Win geo (play geo c.args.position.now r) 1)
    c.as_slice-candidate-items.result.now c.replies.candidate-index all c.replies-test.false
    c.replies.invariant.1.1.0)

pub returns-clause-says : goal.returns-clause-says
returns-clause-says g c kept =
    let geo = g.B.Board.geometry in
    let all = last_ranked geo c.args.position.now c.line_up_last.new.ply.ranked.items
    c.as_slice-candidate-items.result.now _ c.in_ok-after.ensures c.in_default.is
    c.as_slice-candidate-items.ensures.value in
    record {
      when = λ _. below_all geo c.args.position.now
          (Answered geo c.args.position.now 1 (g.M.Memo.content c.replies.search.memo))
          c.as_slice-candidate-items.result.now c.replies.candidate-index all c.replies-test.false
          (c.replies.invariant.1.1.1.1 kept);
      unless = λ t. absurd (t refl);
    }
