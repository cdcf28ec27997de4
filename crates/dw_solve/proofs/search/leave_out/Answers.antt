use Rattle.std.proofs.Common.{refl, sym, subst}
use Rattle.dw_memo.specs.Content.{SameEntries}
use Rattle.dw_memo.specs.Noting.{IsOneLost}
use Rattle.dw_solve.specs.inner.CountLemmas.{counted_none}
use Rattle.dw_solve.specs.Facts.{AreTrue}
use Rattle.dw_solve.proofs.MemoLemmas.{same_true}
use Rattle.dw_solve.proofs.SearchLemmas.{ok_is_no_err}
use Rattle.dw_solve.proofs.StepLemmas.{counted_one}
use Rattle.dw_solve.proofs.WorkLemmas.{searched_same, searched_left_out, searched_stop, stop_passed}
use Rattle.dw_solve.proofs.search.leave_out.Goals as goal

pub returns-then-not-skip_one_move-clause-searched : goal.returns-then-not-skip_one_move-clause-searched
returns-then-not-skip_one_move-clause-searched g c = record {
  right = same_true g.B.Board.geometry (g.M.Memo.content c.args.search.now.memo) _ c.requires.right
      c.skip_one_move.ensures.same;
  count = counted_none _ _ c.requires.within;
  stop = λ e. absurd (ok_is_no_err _ _ e);
  work = searched_same g.B.Board.geometry 1 0 _ _ c.skip_one_move.ensures.map c.skip_one_move.ensures.same
      (sym (c.skip_one_move.ensures.dropped c.if-not-skip_one_move.true)) refl;
}

pub returns-in_err-count-clause-searched : goal.returns-in_err-count-clause-searched
returns-in_err-count-clause-searched g c =
    let content = g.M.Memo.content in
    let old = c.args.search.now in
    let skip = c.skip_one_move.ensures in
    record {
      right = subst (λ m. AreTrue g.B.Board.geometry (content m)) (sym c.count.ensures.memo)
          (same_true g.B.Board.geometry (content old.memo) _ c.requires.right skip.same);
      count = counted_one old.expanded old.limit old.expanded old.limit c.count.new.search.expanded
          c.count.new.search.limit c.requires.within refl refl c.count.ensures.rises c.count.ensures.limit
          c.count.ensures.within;
      stop = stop_passed c.in_err-count.field-0.0 c.from_residual.result _ c.from_residual.ensures.1
          c.in_err-count.ensures.stop;
      work = searched_stop g.B.Board.geometry 1 c.from_residual.result _ _ c.from_residual.ensures.0
          (searched_left_out g.B.Board.geometry 1 1 _ _
          (subst (λ m. SameEntries (content old.memo) (content m)) (sym c.count.ensures.memo) skip.same)
          (subst (λ m. IsOneLost (g.M.Memo.dropped old.memo) (g.M.Memo.dropped m)) (sym c.count.ensures.memo)
          (skip.left_out c.if-not-skip_one_move.false))
          c.count.ensures.rises);
    }

pub returns-clause-searched : goal.returns-clause-searched
returns-clause-searched g c =
    let content = g.M.Memo.content in
    let old = c.args.search.now in
    let skip = c.skip_one_move.ensures in
    record {
      right = subst (λ m. AreTrue g.B.Board.geometry (content m)) (sym c.count.ensures.memo)
          (same_true g.B.Board.geometry (content old.memo) _ c.requires.right skip.same);
      count = counted_one old.expanded old.limit old.expanded old.limit c.count.new.search.expanded
          c.count.new.search.limit c.requires.within refl refl c.count.ensures.rises c.count.ensures.limit
          c.count.ensures.within;
      stop = λ e. absurd (ok_is_no_err _ _ e);
      work = searched_left_out g.B.Board.geometry 1 0 _ _
          (subst (λ m. SameEntries (content old.memo) (content m)) (sym c.count.ensures.memo) skip.same)
          (subst (λ m. IsOneLost (g.M.Memo.dropped old.memo) (g.M.Memo.dropped m)) (sym c.count.ensures.memo)
          (skip.left_out c.if-not-skip_one_move.false))
          c.count.ensures.rises;
    }
