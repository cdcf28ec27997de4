use Rattle.std.proofs.Common.{◌∙◌, refl, sym, ap, subst, arith, is_some}
use Rattle.dw_memo.specs.Content.{SameEntries}
use Rattle.dw_solve.specs.inner.CountLemmas.{counted_none}
use Rattle.dw_solve.specs.Facts.{AreTrue}
use Rattle.dw_solve.specs.Work.{moment}
use Rattle.dw_solve.proofs.MemoLemmas.{bounds_open, bounds_right, bounds_say, same_true, same_map}
use Rattle.dw_solve.proofs.MemoLemmas.{noted_true}
use Rattle.dw_solve.proofs.LastMoveLemmas.{last_answer, says_last}
use Rattle.dw_solve.proofs.WorkLemmas.{searched_none, searched_same, searched_stop, begun_is, wins_stopped, wins_ended}
use Rattle.dw_solve.proofs.WorkLemmas.{noted_by, stop_passed}
use Rattle.dw_solve.proofs.StepLemmas.{counted_one, memory_is_no_limit}
use Rattle.dw_solve.proofs.search.wins_at_once.Goals as goal

pub returns-in-Some-clause-answer : goal.returns-in-Some-clause-answer
returns-in-Some-clause-answer g c =
    bounds_right g.B.Board.geometry (g.M.Memo.content c.args.search.now.memo) c.args.position.now
    c.bounds_now-bounds.result 1 c.decide.result c.in-Some.answer c.requires.ready.right
    c.bounds_now-bounds.ensures.bounds c.decide.ensures.value c.in-Some.is

pub returns-in-Some-clause-searched : goal.returns-in-Some-clause-searched
returns-in-Some-clause-searched g c = record {
  right =
      same_true g.B.Board.geometry (g.M.Memo.content c.args.search.now.memo) _
      c.requires.ready.right c.bounds_now-bounds.ensures.same;
  count = counted_none _ _ c.requires.ready.within;
  stop = λ e. cc;
  work =
      searched_same g.B.Board.geometry 1 0 _ _ c.bounds_now-bounds.ensures.map
      c.bounds_now-bounds.ensures.same (sym c.bounds_now-bounds.ensures.dropped) refl;
}

pub returns-in-Some-clause-says : goal.returns-in-Some-clause-says
returns-in-Some-clause-says g c kept =
    let old = g.M.Memo.content c.args.search.now.memo in
    let new = g.M.Memo.content c.bounds_now-bounds.new.memo in
    bounds_say new c.args.position.now c.bounds_now-bounds.result 1 c.decide.result c.in-Some.answer
    (same_map old new c.args.position.now c.bounds_now-bounds.result c.bounds_now-bounds.ensures.same
    c.bounds_now-bounds.ensures.bounds) c.decide.ensures.value c.in-Some.is

pub returns-in_err-count-clause-searched : goal.returns-in_err-count-clause-searched
returns-in_err-count-clause-searched g c = record {
  right =
      subst (λ m. AreTrue g.B.Board.geometry (g.M.Memo.content m)) (sym c.count.ensures.memo)
      (same_true g.B.Board.geometry (g.M.Memo.content c.args.search.now.memo) _ c.requires.ready.right
      c.bounds_now-bounds.ensures.same);
  count = counted_one c.args.search.now.expanded c.args.search.now.limit c.args.search.now.expanded
      c.args.search.now.limit c.count.new.search.expanded c.count.new.search.limit c.requires.ready.within refl refl
      c.count.ensures.rises c.count.ensures.limit c.count.ensures.within;
  stop = stop_passed c.in_err-count.field-0.0 c.from_residual.result _ c.from_residual.ensures.1
      c.in_err-count.ensures.stop;
  work =
      searched_same g.B.Board.geometry 1 _ _ _ c.bounds_now-bounds.ensures.map
      (subst (λ m. SameEntries (g.M.Memo.content c.args.search.now.memo) (g.M.Memo.content m)) (sym
      c.count.ensures.memo)
      c.bounds_now-bounds.ensures.same)
      (sym (ap g.M.Memo.dropped c.count.ensures.memo ∙ c.bounds_now-bounds.ensures.dropped))
      (sym (c.in_err-count.ensures.same refl));
}

pub returns-in_err-won-clause-searched : goal.returns-in_err-won-clause-searched
returns-in_err-won-clause-searched g c = record {
  right =
      subst (λ m. AreTrue g.B.Board.geometry (g.M.Memo.content m)) (sym c.count.ensures.memo)
      (same_true g.B.Board.geometry (g.M.Memo.content c.args.search.now.memo) _ c.requires.ready.right
      c.bounds_now-bounds.ensures.same);
  count = counted_one c.args.search.now.expanded c.args.search.now.limit c.args.search.now.expanded
      c.args.search.now.limit c.count.new.search.expanded c.count.new.search.limit c.requires.ready.within refl refl
      c.count.ensures.rises c.count.ensures.limit c.count.ensures.within;
  stop = memory_is_no_limit c.from_residual-in_err-won.result _ c.from_residual-in_err-won.ensures.1;
  work =
      let geo = g.B.Board.geometry in
      let known = c.bounds_now-bounds.ensures in
      searched_stop geo 1 c.from_residual-in_err-won.result _ _ c.from_residual-in_err-won.ensures.0
      (wins_stopped geo 1 0 _ (moment g.M.Memo.content g.M.Memo.dropped c.bounds_now-bounds.new.memo
      c.args.search.now.expanded) _ _ (omega arith) (omega arith)
      (begun_is g.M.Memo.content g.M.Memo.dropped _ _ _ _ c.count.ensures.memo c.in_ok-count.ensures.more)
      (searched_same geo 0 0 _ _ known.map known.same (sym known.dropped) refl) (searched_none geo 0 0 _));
}

pub returns-clause-answer : goal.returns-clause-answer
returns-clause-answer g c = last_answer g.B.Board.geometry c.args.position.now c.in_ok-won.won c.in_ok-won.ensures

pub returns-clause-searched : goal.returns-clause-searched
returns-clause-searched g c = record {
  right =
      let geo = g.B.Board.geometry in
      let same = subst (λ m. SameEntries (g.M.Memo.content c.args.search.now.memo) (g.M.Memo.content m))
      (sym c.count.ensures.memo) c.bounds_now-bounds.ensures.same in
      noted_true geo _ _ _ c.args.position.now _ _ 1 c.in_ok-won.won _ _ _ c.requires.ready.right same
      c.bounds_now-bounds.ensures.bounds c.joined.ensures c.note.ensures.note (last_answer geo c.args.position.now
      c.in_ok-won.won c.in_ok-won.ensures);
  count = counted_one c.args.search.now.expanded c.args.search.now.limit c.args.search.now.expanded
      c.args.search.now.limit c.count.new.search.expanded c.count.new.search.limit c.requires.ready.within refl refl
      c.count.ensures.rises c.count.ensures.limit c.count.ensures.within;
  stop = λ e. cc;
  work =
      let geo = g.B.Board.geometry in
      let p = c.args.position.now in
      let known = c.bounds_now-bounds.ensures in
      let seen = moment g.M.Memo.content g.M.Memo.dropped c.bounds_now-bounds.new.memo c.args.search.now.expanded in
      let now = moment g.M.Memo.content g.M.Memo.dropped c.count.new.search.memo c.count.new.search.expanded in
      let same = subst (λ m. SameEntries (g.M.Memo.content c.args.search.now.memo) (g.M.Memo.content m))
      (sym c.count.ensures.memo) known.same in
      (wins_ended geo 1 p c.in_ok-won.won _ seen now now _ (omega arith)
      (begun_is g.M.Memo.content g.M.Memo.dropped _ _ _ _ c.count.ensures.memo c.in_ok-count.ensures.more)
      (bounds_open (g.M.Memo.content c.args.search.now.memo) p c.bounds_now-bounds.result 1 c.decide.result known.map
      known.bounds c.decide.ensures.value (ap is_some c.in_default.is))
      known.map (searched_same geo 0 0 _ seen known.map known.same (sym known.dropped) refl) (searched_none geo 0 0 now)
      (λ _. says_last geo now.content p c.in_ok-won.won c.in_ok-won.ensures)
      (noted_by p 1 c.in_ok-won.won now _ now.content c.bounds_now-bounds.result c.joined.result c.note.result _
      c.note.ensures.note.map_before
      (same_map (g.M.Memo.content c.args.search.now.memo) now.content p c.bounds_now-bounds.result same known.bounds)
      (λ e. ((λ m. m), (λ m. m))) refl c.joined.ensures c.note.ensures.note refl)).searched;
}

pub returns-clause-says : goal.returns-clause-says
returns-clause-says g c =
    let geo = g.B.Board.geometry in
    let p = c.args.position.now in
    let known = c.bounds_now-bounds.ensures in
    let seen = moment g.M.Memo.content g.M.Memo.dropped c.bounds_now-bounds.new.memo c.args.search.now.expanded in
    let now = moment g.M.Memo.content g.M.Memo.dropped c.count.new.search.memo c.count.new.search.expanded in
    let same = subst (λ m. SameEntries (g.M.Memo.content c.args.search.now.memo) (g.M.Memo.content m))
    (sym c.count.ensures.memo) known.same in
    (wins_ended geo 1 p c.in_ok-won.won _ seen now now _ (omega arith)
    (begun_is g.M.Memo.content g.M.Memo.dropped _ _ _ _ c.count.ensures.memo c.in_ok-count.ensures.more)
    (bounds_open (g.M.Memo.content c.args.search.now.memo) p c.bounds_now-bounds.result 1 c.decide.result known.map
    known.bounds c.decide.ensures.value (ap is_some c.in_default.is))
    known.map (searched_same geo 0 0 _ seen known.map known.same (sym known.dropped) refl) (searched_none geo 0 0 now)
    (λ _. says_last geo now.content p c.in_ok-won.won c.in_ok-won.ensures)
    (noted_by p 1 c.in_ok-won.won now _ now.content c.bounds_now-bounds.result c.joined.result c.note.result _
    c.note.ensures.note.map_before
    (same_map (g.M.Memo.content c.args.search.now.memo) now.content p c.bounds_now-bounds.result same known.bounds)
    (λ e. ((λ m. m), (λ m. m))) refl c.joined.ensures c.note.ensures.note refl)).says
