use Rattle.std.proofs.Common.{◌∙◌, refl, sym, ap, subst, arith, false}
use Rattle.dw_memo.specs.Content.{SameEntries}
use Rattle.dw_solve.specs.inner.CountLemmas.{counted_none}
use Rattle.dw_solve.specs.Facts.{AreTrue}
use Rattle.dw_solve.specs.Wins.{Win}
use Rattle.dw_solve.specs.Work.{moment}
use Rattle.dw_solve.proofs.MemoLemmas.{bounds_decide, bounds_open, says_no, same_true, same_map, noted_true}
use Rattle.dw_solve.proofs.SearchLemmas.{decided_same, answer_no}
use Rattle.dw_solve.proofs.WinLemmas.{hopeless_is, says_hopeless}
use Rattle.dw_solve.proofs.WorkLemmas.{searched_none, searched_same, stop_passed, begun_is, wins_ended, noted_by}
use Rattle.dw_solve.proofs.StepLemmas.{counted_one}
use Rattle.dw_solve.proofs.search.refute_noted.Goals as goal

pub returns-then-is_some-clause-searched : goal.returns-then-is_some-clause-searched
returns-then-is_some-clause-searched g c = record {
  right =
      same_true g.B.Board.geometry (g.M.Memo.content c.args.search.now.memo) _ c.requires.ready.right
      c.bounds_now-bounds.ensures.same;
  count = counted_none _ _ c.requires.ready.within;
  stop = λ e. cc;
  work =
      searched_same g.B.Board.geometry 1 0 _ _ c.bounds_now-bounds.ensures.map c.bounds_now-bounds.ensures.same
      (sym c.bounds_now-bounds.ensures.dropped) refl;
}

pub returns-then-is_some-clause-says : goal.returns-then-is_some-clause-says
returns-then-is_some-clause-says g c kept =
    let old = g.M.Memo.content c.args.search.now.memo in
    let new = g.M.Memo.content c.bounds_now-bounds.new.memo in
    says_no g.B.Board.geometry new c.args.position.now (same_true g.B.Board.geometry old new c.requires.ready.right
    c.bounds_now-bounds.ensures.same) c.requires.lost
    (decided_same old new c.args.position.now 1 c.bounds_now-bounds.ensures.same
    (bounds_decide old c.args.position.now c.bounds_now-bounds.result 1 c.decide.result
    c.bounds_now-bounds.ensures.bounds c.decide.ensures.value (sym c.is_some.ensures ∙ c.if-is_some.true)))

pub returns-in_err-count-clause-searched : goal.returns-in_err-count-clause-searched
returns-in_err-count-clause-searched g c = record {
  right =
      subst (λ m. AreTrue g.B.Board.geometry (g.M.Memo.content m)) (sym c.count.ensures.memo)
      (same_true g.B.Board.geometry (g.M.Memo.content c.args.search.now.memo) _ c.requires.ready.right
      c.bounds_now-bounds.ensures.same);
  count = counted_one c.args.search.now.expanded c.args.search.now.limit c.args.search.now.expanded
      c.args.search.now.limit c.count.new.search.expanded c.count.new.search.limit c.requires.ready.within refl refl
      c.count.ensures.rises c.count.ensures.limit c.count.ensures.within;
  stop = stop_passed c.in_err-count.field-0.0 c.from_residual.result _ c.from_residual.ensures.1
      c.in_err-count.ensures.stop;
  work =
      searched_same g.B.Board.geometry 1 _ _ _ c.bounds_now-bounds.ensures.map
      (subst (λ m. SameEntries (g.M.Memo.content c.args.search.now.memo) (g.M.Memo.content m)) (sym
      c.count.ensures.memo)
      c.bounds_now-bounds.ensures.same)
      (sym (ap g.M.Memo.dropped c.count.ensures.memo ∙ c.bounds_now-bounds.ensures.dropped))
      (sym (c.in_err-count.ensures.same refl));
}

pub returns-clause-searched : goal.returns-clause-searched
returns-clause-searched g c = record {
  right =
      let geo = g.B.Board.geometry in
      let same = subst (λ m. SameEntries (g.M.Memo.content c.args.search.now.memo) (g.M.Memo.content m))
      (sym c.count.ensures.memo) c.bounds_now-bounds.ensures.same in
      noted_true geo _ _ _ c.args.position.now _ _ 1 false _ _ _ c.requires.ready.right same
      c.bounds_now-bounds.ensures.bounds
      c.with_fail.ensures c.note.ensures.note
      (answer_no (Win geo c.args.position.now 1) (hopeless_is geo c.args.position.now 1 refl c.requires.lost));
  count = counted_one c.args.search.now.expanded c.args.search.now.limit c.args.search.now.expanded
      c.args.search.now.limit c.count.new.search.expanded c.count.new.search.limit c.requires.ready.within refl refl
      c.count.ensures.rises c.count.ensures.limit c.count.ensures.within;
  stop = λ e. cc;
  work =
      let geo = g.B.Board.geometry in
      let p = c.args.position.now in
      let known = c.bounds_now-bounds.ensures in
      let seen = moment g.M.Memo.content g.M.Memo.dropped c.bounds_now-bounds.new.memo c.args.search.now.expanded in
      let now = moment g.M.Memo.content g.M.Memo.dropped c.count.new.search.memo c.count.new.search.expanded in
      let same = subst (λ m. SameEntries (g.M.Memo.content c.args.search.now.memo) (g.M.Memo.content m))
      (sym c.count.ensures.memo) known.same in
      (wins_ended geo 1 p false _ seen now now _ (omega arith)
      (begun_is g.M.Memo.content g.M.Memo.dropped _ _ _ _ c.count.ensures.memo c.in_ok-count.ensures.more)
      (bounds_open (g.M.Memo.content c.args.search.now.memo) p c.bounds_now-bounds.result 1 c.decide.result known.map
      known.bounds c.decide.ensures.value (sym c.is_some.ensures ∙ c.if-is_some.false))
      known.map (searched_same geo 0 0 _ seen known.map known.same (sym known.dropped) refl) (searched_none geo 0 0 now)
      (λ _. says_hopeless geo now.content p 1 refl c.requires.lost)
      (noted_by p 1 false now _ now.content c.bounds_now-bounds.result c.with_fail.result c.note.result _
      c.note.ensures.note.map_before
      (same_map (g.M.Memo.content c.args.search.now.memo) now.content p c.bounds_now-bounds.result same known.bounds)
      (λ e. ((λ m. m), (λ m. m))) refl c.with_fail.ensures c.note.ensures.note refl)).searched;
}

pub returns-clause-says : goal.returns-clause-says
returns-clause-says g c =
    let geo = g.B.Board.geometry in
    let p = c.args.position.now in
    let known = c.bounds_now-bounds.ensures in
    let seen = moment g.M.Memo.content g.M.Memo.dropped c.bounds_now-bounds.new.memo c.args.search.now.expanded in
    let now = moment g.M.Memo.content g.M.Memo.dropped c.count.new.search.memo c.count.new.search.expanded in
    let same = subst (λ m. SameEntries (g.M.Memo.content c.args.search.now.memo) (g.M.Memo.content m))
    (sym c.count.ensures.memo) known.same in
    (wins_ended geo 1 p false _ seen now now _ (omega arith)
    (begun_is g.M.Memo.content g.M.Memo.dropped _ _ _ _ c.count.ensures.memo c.in_ok-count.ensures.more)
    (bounds_open (g.M.Memo.content c.args.search.now.memo) p c.bounds_now-bounds.result 1 c.decide.result known.map
    known.bounds c.decide.ensures.value (sym c.is_some.ensures ∙ c.if-is_some.false))
    known.map (searched_same geo 0 0 _ seen known.map known.same (sym known.dropped) refl) (searched_none geo 0 0 now)
    (λ _. says_hopeless geo now.content p 1 refl c.requires.lost)
    (noted_by p 1 false now _ now.content c.bounds_now-bounds.result c.with_fail.result c.note.result _
    c.note.ensures.note.map_before
    (same_map (g.M.Memo.content c.args.search.now.memo) now.content p c.bounds_now-bounds.result same known.bounds)
    (λ e. ((λ m. m), (λ m. m))) refl c.with_fail.ensures c.note.ensures.note refl)).says
