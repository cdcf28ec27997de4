use Rattle.std.proofs.Common.{◌≡◌, ◌∙◌, ◌+◌, ◌-◌, ◌*◌, ◌≤◌, true, Ok, length, refl, sym, ap, subst, arith, inl}
use Rattle.std.proofs.Common.{inr, ◌↔◌, ◌⊎◌}
use Rattle.std.specs.Prelude.{IsTrue, IfOk}
use Rattle.std.proofs.lemmas.Result.{IfOk-weaker, IfOk-from_err}
use Rattle.std.proofs.lemmas.Bool.{true≢false}
use Rattle.std.specs.List.{IsFirstAndRest}
use Rattle.std.proofs.lemmas.Option.{MatchOption-at_some}
use Rattle.dw_solve.specs.inner.CountLemmas.{counted_none, counted_then}
use Rattle.dw_solve.specs.Wins.{Win, Lost}
use Rattle.dw_solve.specs.Facts.{AreTrue, IsDecided}
use Rattle.dw_solve.specs.Ranking.{AreRanked, moves_of}
use Rattle.dw_solve.specs.inner.Ranking.{AreAllLegal, AreOpen, AllWin, SaysAll, IfAnswered}
use Rattle.dw_solve.specs.Work.{moment, Searched, cut_off}
use Rattle.dw_solve.specs.inner.Searching.{at_time, HasSearched}
use Rattle.dw_solve.specs.Certificates.{SaysWin, SaysLost}
use Rattle.dw_moves.specs.Moves.{play}
use Rattle.dw_moves.specs.inner.MoveLemmas.{listed_is_legal}
use Rattle.dw_solve.proofs.OpenLemmas.{put_off_none, put_off_won, put_off_more, put_off_all, put_off_legal, moves_added}
use Rattle.dw_solve.proofs.OpenLemmas.{open_anyhow, all_win, one_does_not, says_all, says_not_all, all_lose}
use Rattle.dw_solve.proofs.OpenLemmas.{says_all_lose}
use Rattle.dw_solve.proofs.RankLemmas.{ranked_legal, below_more, win_by, never_won}
use Rattle.dw_solve.proofs.WorkLemmas.{searched_none, searched_wider, searched_looser, searched_stop, stop_passed}
use Rattle.dw_solve.proofs.WorkLemmas.{moment_is, begun_is, wins_stopped, wins_ended, second_kept}
use Rattle.dw_solve.proofs.StepLemmas.{searched_nothing, searched_on, searched_ok, searched_err}
use Rattle.dw_solve.proofs.StepLemmas.{searched_memory, searched_looked, memory_is_no_limit, counted_one}
use Rattle.dw_solve.proofs.TriedLemmas.{Refuted, Answered, tried_none, refuted_more, answered_more}
use Rattle.dw_solve.proofs.TriedLemmas.{says_winning, says_none, says_refuted}
use Rattle.dw_solve.proofs.SearchLemmas.{ok_is_no_err, not_known, spent_in, unchanged_none, unchanged_then}
use Rattle.dw_solve.proofs.SearchLemmas.{reply_decided, replies_same, lost_at_none, says_at_none}
use Rattle.dw_solve.proofs.SearchLemmas.{is_so, is_not, answer_no, answer_yes, some_first}
use Rattle.dw_solve.proofs.SearchLemmas.{counted_within, same_within, one_spent, none_below_none}
use Rattle.dw_solve.proofs.SearchLemmas.{none_or_some, one_less, room_for_moves}
use Rattle.dw_solve.proofs.SearchLemmas.{room_left, room_after, none_at_most, same_at_most}
use Rattle.dw_solve.proofs.search.+search.Goals as goal
use Rattle.dw_solve.proofs.search.+search.Goals.{good_reply_refutes-in-Answered-true}
use Rattle.dw_solve.proofs.search.+search.Goals.{good_reply_refutes-in-PutOff+in_ok-add_reply-in-PutOff}

pub some_move_wins-play-requires : goal.some_move_wins-play-requires
some_move_wins-play-requires g t c =
    ranked_legal g.B.Board.geometry c.args.position.now c.args.ranked.now c.moves.candidate-index
    c.candidate-item.result c.requires.ranked c.moves-test.true c.candidate-item.is

pub some_move_wins-loses-requires : goal.some_move_wins-loses-requires
some_move_wins-loses-requires g t c κs within =
    let f = c.decreases in
    let k = c.moves.invariant.1.0 in (
      omega (arith, f),
      (
        within.0,
        (
          within.1.0,
          (
            within.1.1,
            (
              record {
                right = c.moves.invariant.0;
                within = counted_within c.args.search.now.expanded c.args.search.now.limit
                    c.moves.search.expanded c.moves.search.limit k;
              },
              λ _. subst (λ k. 2 * c.args.moves + 1 ≤ k) (sym c.moves.auto.plies) c.requires.room,
            ),
          ),
        ),
      ),
    )

pub some_move_wins-moves-init : goal.some_move_wins-moves-init
some_move_wins-moves-init g t c = (
  c.requires.ready.right,
  (
    counted_none c.args.search.now.expanded c.args.search.now.limit c.requires.ready.within,
    (
      (λ k x low e lost. absurd (none_below_none k low)),
      tried_none _ _ (Refuted g.B.Board.geometry c.args.position.now c.args.moves) _ _,
    ),
  ),
)

pub some_move_wins-moves-preserved : goal.some_move_wins-moves-preserved
some_move_wins-moves-preserved g t c =
    let geo = g.B.Board.geometry in (
      c.in_ok-loses.ensures.searched.right,
      (
        counted_then _ _ _ _ _ _ c.moves.invariant.1.0 c.in_ok-loses.ensures.searched.count,
        (
          below_more (λ m. Lost geo (play geo c.args.position.now m) c.args.moves
              → ⊥) c.args.ranked.now c.moves.candidate-index c.candidate-item.result c.moves.invariant.1.1.0
              c.moves-test.true c.candidate-item.is
              (λ lost. is_not c.in_ok-loses.field-0 _ c.in_ok-loses.ensures.answer c.if-branch.false
              (subst (λ q. Lost geo q c.args.moves) (sym c.play.ensures) lost)),
          refuted_more geo c.args.moves c.args.position.now c.args.ranked.now c.moves.candidate-index
              c.candidate-item.result c.play.result c.in_ok-loses.field-0 _ _ _
              c.moves.invariant.1.1.1 c.moves-test.true c.candidate-item.is c.play.ensures c.if-branch.false
              c.in_ok-loses.ensures.searched.work c.in_ok-loses.ensures.says,
        ),
      ),
    )

pub some_move_wins-returns-then-branch-clause-answer : goal.some_move_wins-returns-then-branch-clause-answer
some_move_wins-returns-then-branch-clause-answer g t c =
    let geo = g.B.Board.geometry in
    let legal = ranked_legal geo c.args.position.now c.args.ranked.now c.moves.candidate-index c.candidate-item.result
    c.requires.ranked c.moves-test.true c.candidate-item.is in
    answer_yes (Win geo c.args.position.now (c.args.moves + 1))
    (win_by geo c.args.position.now c.args.moves c.candidate-item.result.1 legal
    (subst (λ q. Lost geo q c.args.moves) c.play.ensures (is_so c.in_ok-loses.field-0 _ c.in_ok-loses.ensures.answer
    c.if-branch.true)))

pub some_move_wins-returns-clause-answer : goal.some_move_wins-returns-clause-answer
some_move_wins-returns-clause-answer g t c =
    answer_no (Win g.B.Board.geometry c.args.position.now (c.args.moves + 1))
    (never_won g.B.Board.geometry c.args.position.now c.args.moves c.args.ranked.now c.moves.candidate-index
    c.requires.ranked c.moves-test.false c.moves.invariant.1.1.0)

pub wins-returns-in-Some-clause-spent : goal.wins-returns-in-Some-clause-spent
wins-returns-in-Some-clause-spent g t c some undecided =
    absurd (elim (c.in-Some.ensures.answer.sure) [
      | inl none ↦ none_or_some c.args.moves none some
      | inr known ↦ undecided known
    ])

pub expand-some_move_wins-requires : goal.expand-some_move_wins-requires
expand-some_move_wins-requires g t c κs within =
    let geo = g.B.Board.geometry in
    let rest = (MatchOption-at_some (length c.args.plies.now ≡ 0) (λ p. IsFirstAndRest c.args.plies.now p.0.now p.1.now)
    c.unwrap.result c.unwrap.ensures c.split_first_mut.ensures.cases).1 in
    let f = c.decreases in
    let some = c.requires.undecided.some in (
      omega (arith, f, some),
      (
        within.0,
        (
          within.1.0,
          (
            within.1.1,
            (
              subst (AreRanked geo c.args.position.now) (sym c.as_slice.ensures.value) c.in_ok-line_up.ensures,
              (
                record {
                  right = subst (λ m. AreTrue geo (g.M.Memo.content m)) (sym c.count.ensures.memo)
                      c.requires.ready.right;
                  within = c.count.ensures.within;
                },
                room_after c.args.moves (length c.args.plies.now) (length c.unwrap.result.1.now) some rest
                    c.requires.room,
              ),
            ),
          ),
        ),
      ),
    )

pub some_move_wins-returns-in_err-loses-clause-searched : goal.some_move_wins-returns-in_err-loses-clause-searched
some_move_wins-returns-in_err-loses-clause-searched g t c =
    let geo = g.B.Board.geometry in
    let content = g.M.Memo.content in
    let lost = g.M.Memo.dropped in
    searched_err geo content lost c.args.moves _ _ c.in_err-loses.field-0.0 _ c.from_residual.ensures.1
    (searched_on geo content lost c.args.moves _ _ _ _ (record {
      right = c.moves.invariant.0;
      count = c.moves.invariant.1.0;
      stop = λ e. absurd (ok_is_no_err _ _ e);
      work = c.moves.invariant.1.1.1.0;
    }) c.in_err-loses.ensures.searched)

pub some_move_wins-returns-then-branch-clause-searched : goal.some_move_wins-returns-then-branch-clause-searched
some_move_wins-returns-then-branch-clause-searched g t c =
    let geo = g.B.Board.geometry in
    let content = g.M.Memo.content in
    let lost = g.M.Memo.dropped in
    let h : HasSearched geo content lost c.args.moves c.args.search.now c.loses.new.search (Ok true) =
    searched_ok geo content lost c.args.moves _ _ _ _
    (searched_on geo content lost c.args.moves _ _ _ _ (record {
      right = c.moves.invariant.0;
      count = c.moves.invariant.1.0;
      stop = λ e. absurd (ok_is_no_err _ _ e);
      work = c.moves.invariant.1.1.1.0;
    }) c.in_ok-loses.ensures.searched) in
    record { right = h.right; count = h.count; stop = h.stop; work = h.work }

pub some_move_wins-returns-then-branch-clause-says : goal.some_move_wins-returns-then-branch-clause-says
some_move_wins-returns-then-branch-clause-says g t c =
    let geo = g.B.Board.geometry in
    let legal = ranked_legal geo c.args.position.now c.args.ranked.now c.moves.candidate-index c.candidate-item.result
    c.requires.ranked c.moves-test.true c.candidate-item.is in
    says_winning geo c.args.moves c.args.position.now c.candidate-item.result.1 c.play.result c.in_ok-loses.field-0 _ _
    _ c.moves.invariant.1.1.1.0 c.in_ok-loses.ensures.searched.work legal c.play.ensures c.if-branch.true
    c.in_ok-loses.ensures.says

pub some_move_wins-returns-clause-searched : goal.some_move_wins-returns-clause-searched
some_move_wins-returns-clause-searched g t c = record {
  right = c.moves.invariant.0;
  count = c.moves.invariant.1.0;
  stop = λ e. absurd (ok_is_no_err _ _ e);
  work = c.moves.invariant.1.1.1.0;
}

pub some_move_wins-returns-clause-says : goal.some_move_wins-returns-clause-says
some_move_wins-returns-clause-says g t c =
    says_none g.B.Board.geometry c.args.moves c.args.position.now c.args.ranked.now c.moves.candidate-index _ _
    c.requires.ranked c.moves-test.false c.moves.invariant.1.1.1

pub wins-returns-in-Some-clause-searched : goal.wins-returns-in-Some-clause-searched
wins-returns-in-Some-clause-searched g t c =
    let geo = g.B.Board.geometry in
    let content = g.M.Memo.content in
    let lost = g.M.Memo.dropped in
    searched_ok geo content lost c.args.moves _ _ 0 _ (searched_looked geo content lost c.args.moves _
    c.known.new.search c.requires.ready
    c.known.ensures.looked.right c.known.ensures.looked.count c.known.ensures.looked.limit c.known.ensures.looked.work)

pub expand-returns-in_err-line_up-clause-searched : goal.expand-returns-in_err-line_up-clause-searched
expand-returns-in_err-line_up-clause-searched g t c = record {
  right = subst (λ m. AreTrue g.B.Board.geometry (g.M.Memo.content m)) (sym c.count.ensures.memo)
      c.requires.ready.right;
  count = counted_one c.args.search.now.expanded c.args.search.now.limit c.args.search.now.expanded
      c.args.search.now.limit c.count.new.search.expanded c.count.new.search.limit c.requires.ready.within
      refl refl c.count.ensures.rises c.count.ensures.limit c.count.ensures.within;
  stop = memory_is_no_limit c.from_residual-in_err-line_up.result _ c.from_residual-in_err-line_up.ensures.1;
  work =
      let geo = g.B.Board.geometry in
      searched_stop geo c.args.moves c.from_residual-in_err-line_up.result _ _ c.from_residual-in_err-line_up.ensures.0
      (wins_stopped geo c.args.moves 0 _ (moment g.M.Memo.content g.M.Memo.dropped c.args.search.now.memo
      c.args.search.now.expanded) _ _ c.requires.undecided.some (none_at_most (c.args.moves - 1))
      (begun_is g.M.Memo.content g.M.Memo.dropped _ _ _ _ c.count.ensures.memo c.in_ok-count.ensures.more)
      (searched_none _ 0 0 _) (searched_none _ _ _ _));
}

pub expand-returns-in_err-won-clause-searched : goal.expand-returns-in_err-won-clause-searched
expand-returns-in_err-won-clause-searched g t c = record {
  right = c.in_err-won.ensures.searched.right;
  count = counted_then _ _ _ _ _ _ (counted_one c.args.search.now.expanded c.args.search.now.limit
      c.args.search.now.expanded
      c.args.search.now.limit c.count.new.search.expanded c.count.new.search.limit c.requires.ready.within
      refl refl c.count.ensures.rises c.count.ensures.limit c.count.ensures.within)
      c.in_err-won.ensures.searched.count;
  stop = stop_passed c.in_err-won.field-0.0 c.from_residual-in_err-won.result _ c.from_residual-in_err-won.ensures.1
      c.in_err-won.ensures.searched.stop;
  work =
      let geo = g.B.Board.geometry in
      let some = c.requires.undecided.some in
      searched_stop geo c.args.moves c.from_residual-in_err-won.result _ _ c.from_residual-in_err-won.ensures.0
      (wins_stopped geo c.args.moves (c.args.moves - 1) _ (moment g.M.Memo.content g.M.Memo.dropped
      c.args.search.now.memo c.args.search.now.expanded) _ _ some (same_at_most (c.args.moves - 1))
      (begun_is g.M.Memo.content g.M.Memo.dropped _ _ _ _ c.count.ensures.memo c.in_ok-count.ensures.more)
      (searched_none _ 0 0 _) c.in_err-won.ensures.searched.work);
}

pub expand-returns-clause-searched : goal.expand-returns-clause-searched
expand-returns-clause-searched g t c = record {
  right = c.note.ensures.right;
  count =
      let found = counted_then _ _ _ _ _ _ (counted_one c.args.search.now.expanded c.args.search.now.limit
      c.args.search.now.expanded
      c.args.search.now.limit c.count.new.search.expanded c.count.new.search.limit c.requires.ready.within
      refl refl c.count.ensures.rises c.count.ensures.limit c.count.ensures.within)
      c.in_ok-won.ensures.searched.count in
      record {
        rises = subst (λ e. c.args.search.now.expanded ≤ e) (sym c.note.ensures.count) found.rises;
        within = subst (λ e. e ≤ c.args.search.now.limit) (sym c.note.ensures.count) found.within;
        same = c.note.ensures.limit ∙ found.same;
      };
  stop = λ e. absurd (ok_is_no_err _ _ e);
  work =
      let geo = g.B.Board.geometry in
      let some = c.requires.undecided.some in
      (wins_ended geo c.args.moves c.args.position.now c.in_ok-won.won _ (moment g.M.Memo.content g.M.Memo.dropped
      c.args.search.now.memo c.args.search.now.expanded) _ (moment g.M.Memo.content g.M.Memo.dropped
      c.some_move_wins.new.search.memo c.some_move_wins.new.search.expanded) _ some
      (begun_is g.M.Memo.content g.M.Memo.dropped _ _ _ _ c.count.ensures.memo c.in_ok-count.ensures.more)
      c.requires.undecided.undecided c.requires.undecided.map
      (searched_none _ 0 0 _) c.in_ok-won.ensures.searched.work c.in_ok-won.ensures.says
      c.note.ensures.noted).searched;
}

pub expand-returns-clause-says : goal.expand-returns-clause-says
expand-returns-clause-says g t c =
    let geo = g.B.Board.geometry in
    let some = c.requires.undecided.some in
    (wins_ended geo c.args.moves c.args.position.now c.in_ok-won.won _ (moment g.M.Memo.content g.M.Memo.dropped
    c.args.search.now.memo c.args.search.now.expanded) _ (moment g.M.Memo.content g.M.Memo.dropped
    c.some_move_wins.new.search.memo c.some_move_wins.new.search.expanded) _ some
    (begun_is g.M.Memo.content g.M.Memo.dropped _ _ _ _ c.count.ensures.memo c.in_ok-count.ensures.more)
    c.requires.undecided.undecided c.requires.undecided.map
    (searched_none _ 0 0 _) c.in_ok-won.ensures.searched.work c.in_ok-won.ensures.says c.note.ensures.noted).says

pub wins-returns-in-Some-clause-answer : goal.wins-returns-in-Some-clause-answer
wins-returns-in-Some-clause-answer g t c = c.in-Some.ensures.answer.answer

pub expand-returns-in_err-count-clause-searched : goal.expand-returns-in_err-count-clause-searched
expand-returns-in_err-count-clause-searched g t c =
    let geo = g.B.Board.geometry in
    let content = g.M.Memo.content in
    let lost = g.M.Memo.dropped in
    let same = moment_is content lost c.args.search.now.memo c.count.new.search.memo c.args.search.now.expanded
    c.count.new.search.expanded c.count.ensures.memo (c.in_err-count.ensures.same refl) in
    record {
      right = subst (λ m. AreTrue geo (content m)) (sym c.count.ensures.memo) c.requires.ready.right;
      count = counted_one c.args.search.now.expanded c.args.search.now.limit c.args.search.now.expanded
          c.args.search.now.limit c.count.new.search.expanded c.count.new.search.limit c.requires.ready.within
          refl refl c.count.ensures.rises c.count.ensures.limit
          c.count.ensures.within;
      stop = stop_passed c.in_err-count.field-0.0 c.from_residual.result _ c.from_residual.ensures.1
          c.in_err-count.ensures.stop;
      work = searched_stop geo c.args.moves c.from_residual.result _ _ c.from_residual.ensures.0
          (subst (Searched geo c.args.moves c.args.moves (at_time content lost c.args.search.now)) (sym same)
          (searched_looser geo c.args.moves 0 c.args.moves _ _ (none_at_most c.args.moves)
          (searched_wider geo 0 c.args.moves 0 _ _ (none_at_most c.args.moves) (searched_none _ 0 0 _))));
    }

pub expand-returns-clause-spent : goal.expand-returns-clause-spent
expand-returns-clause-spent g t c =
    one_spent c.args.search.now.expanded c.args.search.now.expanded c.count.new.search.expanded
    c.some_move_wins.new.search.expanded c.note.new.search.expanded refl c.in_ok-count.ensures.more
    c.in_ok-won.ensures.searched.count.rises c.note.ensures.count

pub expand-note-requires-clause-right : goal.expand-note-requires-clause-right
expand-note-requires-clause-right g t c = c.in_ok-won.ensures.searched.right

pub expand-note-requires-clause-answer : goal.expand-note-requires-clause-answer
expand-note-requires-clause-answer g t c =
    let all = one_less c.args.moves c.requires.undecided.some in
    subst (λ n. IsTrue c.in_ok-won.won ↔ Win g.B.Board.geometry c.args.position.now n) all c.in_ok-won.ensures.answer

pub expand-returns-clause-answer : goal.expand-returns-clause-answer
expand-returns-clause-answer g t c =
    let all = one_less c.args.moves c.requires.undecided.some in
    subst (λ n. IsTrue c.in_ok-won.won ↔ Win g.B.Board.geometry c.args.position.now n) all c.in_ok-won.ensures.answer

pub wins-returns-in-Some-clause-says : goal.wins-returns-in-Some-clause-says
wins-returns-in-Some-clause-says g t c kept = c.in-Some.ensures.answer.says

pub wins-returns-in-Some-clause-known : goal.wins-returns-in-Some-clause-known
wins-returns-in-Some-clause-known g t c decided = (refl, (c.known.ensures.looked.count, c.known.ensures.looked.same))

pub wins-known-requires : goal.wins-known-requires
wins-known-requires g t c = c.requires.ready.right

pub expand-count-requires : goal.expand-count-requires
expand-count-requires g t c =
    same_within c.args.search.now.expanded c.args.search.now.limit c.args.search.now.expanded c.args.search.now.limit
    c.requires.ready.within refl refl

pub expand-unwrap-requires : goal.expand-unwrap-requires
expand-unwrap-requires g t c =
    some_first c.split_first_mut.result (length c.args.plies.now) _ c.split_first_mut.ensures.cases
    (room_for_moves c.args.moves (length c.args.plies.now) c.requires.room c.requires.undecided.some)

pub some_move_wins-returns-in_err-loses-clause-answer : goal.some_move_wins-returns-in_err-loses-clause-answer
some_move_wins-returns-in_err-loses-clause-answer g t c =
    IfOk-from_err c.from_residual.result _ c.from_residual.ensures.0

pub some_move_wins-returns-in_err-loses-clause-says : goal.some_move_wins-returns-in_err-loses-clause-says
some_move_wins-returns-in_err-loses-clause-says g t c kept =
    IfOk-from_err c.from_residual.result _ c.from_residual.ensures.0

pub expand-returns-in_err-count-clause-answer : goal.expand-returns-in_err-count-clause-answer
expand-returns-in_err-count-clause-answer g t c = IfOk-from_err c.from_residual.result _ c.from_residual.ensures.0

pub expand-returns-in_err-count-clause-says : goal.expand-returns-in_err-count-clause-says
expand-returns-in_err-count-clause-says g t c kept = IfOk-from_err c.from_residual.result _ c.from_residual.ensures.0

pub expand-returns-in_err-count-clause-spent : goal.expand-returns-in_err-count-clause-spent
expand-returns-in_err-count-clause-spent g t c = IfOk-from_err c.from_residual.result _ c.from_residual.ensures.0

pub expand-returns-in_err-line_up-clause-answer : goal.expand-returns-in_err-line_up-clause-answer
expand-returns-in_err-line_up-clause-answer g t c =
    IfOk-from_err c.from_residual-in_err-line_up.result _ c.from_residual-in_err-line_up.ensures.0

pub expand-returns-in_err-line_up-clause-says : goal.expand-returns-in_err-line_up-clause-says
expand-returns-in_err-line_up-clause-says g t c kept =
    IfOk-from_err c.from_residual-in_err-line_up.result _ c.from_residual-in_err-line_up.ensures.0

pub expand-returns-in_err-line_up-clause-spent : goal.expand-returns-in_err-line_up-clause-spent
expand-returns-in_err-line_up-clause-spent g t c =
    IfOk-from_err c.from_residual-in_err-line_up.result _ c.from_residual-in_err-line_up.ensures.0

pub expand-returns-in_err-won-clause-answer : goal.expand-returns-in_err-won-clause-answer
expand-returns-in_err-won-clause-answer g t c =
    IfOk-from_err c.from_residual-in_err-won.result _ c.from_residual-in_err-won.ensures.0

pub expand-returns-in_err-won-clause-says : goal.expand-returns-in_err-won-clause-says
expand-returns-in_err-won-clause-says g t c kept =
    IfOk-from_err c.from_residual-in_err-won.result _ c.from_residual-in_err-won.ensures.0

pub expand-returns-in_err-won-clause-spent : goal.expand-returns-in_err-won-clause-spent
expand-returns-in_err-won-clause-spent g t c =
    IfOk-from_err c.from_residual-in_err-won.result _ c.from_residual-in_err-won.ensures.0

pub wins-expand-requires : goal.wins-expand-requires
wins-expand-requires g t c κs within =
    let looked = c.known.ensures.looked in
    let f = c.decreases in (
      omega (arith, f),
      (
        within.0,
        (
          within.1.0,
          (
            within.1.1,
            (
              record {
                right = looked.right;
                within = same_within c.args.search.now.expanded c.args.search.now.limit c.known.new.search.expanded
                    c.known.new.search.limit c.requires.ready.within looked.count looked.limit;
              },
              (
                c.in_default.ensures.answer,
                c.requires.room,
              ),
            ),
          ),
        ),
      ),
    )

pub wins-returns-clause-spent : goal.wins-returns-clause-spent
wins-returns-clause-spent g t c = spent_in _ _ c.expand.result _ _ _ c.known.ensures.looked.count c.expand.ensures.spent

pub wins-returns-clause-searched : goal.wins-returns-clause-searched
wins-returns-clause-searched g t c =
    let geo = g.B.Board.geometry in
    let content = g.M.Memo.content in
    let lost = g.M.Memo.dropped in
    let looked = c.known.ensures.looked in
    let h = c.expand.ensures.searched in
    searched_on geo content lost c.args.moves _ c.known.new.search _ _
    (searched_looked geo content lost c.args.moves _ _ c.requires.ready looked.right looked.count looked.limit
    looked.work)
    (record { right = h.right; count = h.count; stop = h.stop; work = h.work })

pub wins-returns-clause-known : goal.wins-returns-clause-known
wins-returns-clause-known g t c =
    not_known _ (g.M.Memo.content c.args.search.now.memo) (g.M.Memo.content c.known.new.search.memo) c.args.position.now
    c.args.moves c.known.ensures.looked.same c.in_default.ensures.answer

pub loses-returns-then-moves-eq0-clause-answer : goal.loses-returns-then-moves-eq0-clause-answer
loses-returns-then-moves-eq0-clause-answer g t c = lost_at_none g.B.Board.geometry c.args.position.now c.args.moves
    c.has_move.result c.if-moves-eq0.true c.has_move.ensures

pub loses-returns-then-moves-eq0-clause-searched : goal.loses-returns-then-moves-eq0-clause-searched
loses-returns-then-moves-eq0-clause-searched g t c =
    let geo = g.B.Board.geometry in
    let content = g.M.Memo.content in
    let lost = g.M.Memo.dropped in
    searched_ok geo content lost c.args.moves _ _ 0 _ (searched_nothing geo content lost c.args.moves c.args.search.now
    c.requires.ready)

pub loses-returns-then-moves-eq0-clause-says : goal.loses-returns-then-moves-eq0-clause-says
loses-returns-then-moves-eq0-clause-says g t c kept =
    says_at_none g.B.Board.geometry (g.M.Memo.content c.args.search.now.memo) c.args.position.now c.args.moves
    c.has_move.result c.if-moves-eq0.true c.has_move.ensures

pub loses-returns-then-moves-eq1-clause-answer : goal.loses-returns-then-moves-eq1-clause-answer
loses-returns-then-moves-eq1-clause-answer g t c =
    subst (λ n. IfOk c.loses_last.result (λ yes. IsTrue yes ↔ Lost g.B.Board.geometry c.args.position.now n))
    (sym c.if-moves-eq1.true) c.loses_last.ensures.answer

pub loses-returns-in_err-legal_into-clause-searched : goal.loses-returns-in_err-legal_into-clause-searched
loses-returns-in_err-legal_into-clause-searched g t c =
    searched_memory g.B.Board.geometry g.M.Memo.content g.M.Memo.dropped c.args.moves _ _ _ c.from_residual.ensures.1
    (searched_nothing g.B.Board.geometry g.M.Memo.content g.M.Memo.dropped c.args.moves c.args.search.now
    c.requires.ready)

pub loses-all_replies_lose-requires : goal.loses-all_replies_lose-requires
loses-all_replies_lose-requires g t c κs within =
    let geo = g.B.Board.geometry in
    let rest = (MatchOption-at_some (length c.args.plies.now ≡ 0) (λ p. IsFirstAndRest c.args.plies.now p.0.now p.1.now)
    c.unwrap.result c.unwrap.ensures c.split_first_mut.ensures.cases).1 in
    let before = at_time g.M.Memo.content g.M.Memo.dropped c.args.search.now in
    let after = at_time g.M.Memo.content g.M.Memo.dropped c.good_reply_refutes.new.search in
    let sorted = open_anyhow geo c.args.position.now c.args.moves c.good_reply_refutes.new.ranked.items
    c.sort_unstable_by_key.new.self.items before after (c.in_ok-good_reply_refutes.ensures.open c.if-branch.false)
    c.sort_unstable_by_key.ensures.permutation in
    let f = c.decreases in (
      omega (arith, f),
      (
        within.0,
        (
          within.1.0,
          (
            within.1.1,
            (
              subst (λ z. AreAllLegal geo c.args.position.now (moves_of z)) (sym c.as_slice-2.ensures.value)
                  sorted.legal,
              (
                record {
                  right = c.in_ok-good_reply_refutes.ensures.searched.right;
                  within = counted_within c.args.search.now.expanded c.args.search.now.limit
                      c.good_reply_refutes.new.search.expanded c.good_reply_refutes.new.search.limit
                      c.in_ok-good_reply_refutes.ensures.searched.count;
                },
                room_left c.args.moves (length c.args.plies.now) (length c.unwrap.result.1.now)
                    (length c.good_reply_refutes.new.plies) c.requires.room c.if-moves-eq0.false rest
                    c.good_reply_refutes.auto.plies,
              ),
            ),
          ),
        ),
      ),
    )

pub loses-returns-clause-answer : goal.loses-returns-clause-answer
loses-returns-clause-answer g t c =
    let geo = g.B.Board.geometry in
    let content = g.M.Memo.content in
    let lost = g.M.Memo.dropped in
    let before = at_time content lost c.args.search.now in
    let after = at_time content lost c.good_reply_refutes.new.search in
    let last = at_time content lost c.all_replies_lose.new.search in
    let here = subst (λ z. AreOpen geo c.args.position.now c.args.moves (moves_of z) before after)
    (sym c.as_slice-2.ensures.value)
    (open_anyhow geo c.args.position.now c.args.moves c.good_reply_refutes.new.ranked.items
    c.sort_unstable_by_key.new.self.items before after (c.in_ok-good_reply_refutes.ensures.open c.if-branch.false)
    c.sort_unstable_by_key.ensures.permutation) in
    IfOk-weaker c.all_replies_lose.result
    (λ yes. IsTrue yes ↔ AllWin geo c.args.position.now c.args.moves c.as_slice-2.result.now)
    (λ yes. IsTrue yes ↔ Lost geo c.args.position.now c.args.moves)
    (λ answer h. all_lose geo c.args.position.now c.args.moves (cut_off c.all_replies_lose.result c.args.moves)
    c.as_slice-2.result.now before after last here c.in_ok-good_reply_refutes.ensures.searched.work
    c.all_replies_lose.ensures.searched.work answer h)
    c.all_replies_lose.ensures.answer

pub loses-returns-clause-says : goal.loses-returns-clause-says
loses-returns-clause-says g t c kept =
    let geo = g.B.Board.geometry in
    let content = g.M.Memo.content in
    let lost = g.M.Memo.dropped in
    let before = at_time content lost c.args.search.now in
    let after = at_time content lost c.good_reply_refutes.new.search in
    let last = at_time content lost c.all_replies_lose.new.search in
    let here = subst (λ z. AreOpen geo c.args.position.now c.args.moves (moves_of z) before after)
    (sym c.as_slice-2.ensures.value)
    (open_anyhow geo c.args.position.now c.args.moves c.good_reply_refutes.new.ranked.items
    c.sort_unstable_by_key.new.self.items before after (c.in_ok-good_reply_refutes.ensures.open c.if-branch.false)
    c.sort_unstable_by_key.ensures.permutation) in
    let v = c.in_ok-good_reply_refutes.ensures.searched.work in
    let w = c.all_replies_lose.ensures.searched.work in
    IfOk-weaker c.all_replies_lose.result
    (SaysAll geo last.content c.args.position.now c.args.moves c.as_slice-2.result.now)
    (SaysLost geo last.content c.args.position.now c.args.moves)
    (λ answer h. says_all_lose geo c.args.position.now c.args.moves (cut_off c.all_replies_lose.result c.args.moves)
    c.as_slice-2.result.now before after last here v w answer kept (λ _. h))
    (c.all_replies_lose.ensures.says (second_kept before after last v.counted w.counted kept))

pub loses-returns-clause-searched : goal.loses-returns-clause-searched
loses-returns-clause-searched g t c =
    let geo = g.B.Board.geometry in
    let content = g.M.Memo.content in
    let lost = g.M.Memo.dropped in
    let h = c.all_replies_lose.ensures.searched in
    searched_on geo content lost c.args.moves _ c.good_reply_refutes.new.search _ _
    (searched_ok geo content lost c.args.moves _ _ _ 0 c.in_ok-good_reply_refutes.ensures.searched)
    (record { right = h.right; count = h.count; stop = h.stop; work = h.work })

pub loses-returns-clause-known : goal.loses-returns-clause-known
loses-returns-clause-known g t c all =
    let geo = g.B.Board.geometry in
    let first = g.M.Memo.content c.args.search.now.memo in
    let then = g.M.Memo.content c.good_reply_refutes.new.search.memo in
    let here = c.in_ok-good_reply_refutes.ensures.known all in
    let later = c.all_replies_lose.ensures.known
    (replies_same geo first then c.args.position.now c.args.moves here.1.1 all) in
    inr (
      later.0,
      unchanged_then first then (g.M.Memo.content c.all_replies_lose.new.search.memo)
          c.args.search.now.expanded c.good_reply_refutes.new.search.expanded c.all_replies_lose.new.search.expanded
          here.1 later.1,
    )

pub good_reply_refutes-replies-init : goal.good_reply_refutes-replies-init
good_reply_refutes-replies-init g t c = (
  c.requires.ready.right,
  (
    counted_none c.args.search.now.expanded c.args.search.now.limit c.requires.ready.within,
    (
      put_off_none g.B.Board.geometry c.args.position.now c.args.moves c.args.legal.now
          (moves_of c.args.ranked.now.items) (at_time g.M.Memo.content g.M.Memo.dropped c.args.search.now)
          (ap moves_of c.requires.empty),
      λ all. unchanged_none (g.M.Memo.content c.args.search.now.memo) c.args.search.now.expanded,
    ),
  ),
)

pub good_reply_refutes-try_reply-requires : goal.good_reply_refutes-try_reply-requires
good_reply_refutes-try_reply-requires g t c κs within =
    let geo = g.B.Board.geometry in
    let legal = listed_is_legal geo c.args.position.now c.args.legal.now c.replies.reply-index c.reply-item.result
    c.requires.legal c.replies-test.true c.reply-item.is in
    let f = c.decreases in
    let k = c.replies.invariant.1.0 in (
      omega (arith, f),
      (
        within.0,
        (
          within.1.0,
          (
            within.1.1,
            (
              legal,
              (
                record {
                  right = c.replies.invariant.0;
                  within = counted_within c.args.search.now.expanded c.args.search.now.limit
                      c.replies.search.expanded c.replies.search.limit k;
                },
                subst (λ k. 2 * c.args.moves ≤ k) (sym c.replies.auto.plies) c.requires.room,
              ),
            ),
          ),
        ),
      ),
    )

pub good_reply_refutes-returns-in_err-try_reply-clause-searched :
    goal.good_reply_refutes-returns-in_err-try_reply-clause-searched
good_reply_refutes-returns-in_err-try_reply-clause-searched g t c =
    let geo = g.B.Board.geometry in
    let content = g.M.Memo.content in
    let lost = g.M.Memo.dropped in
    searched_err geo content lost c.args.moves _ _ c.in_err-try_reply.field-0.0 _ c.from_residual.ensures.1
    (searched_on geo content lost c.args.moves c.args.search.now c.replies.search c.try_reply.new.search _
    (record {
      right = c.replies.invariant.0;
      count = c.replies.invariant.1.0;
      stop = λ e. absurd (ok_is_no_err _ _ e);
      work = c.replies.invariant.1.1.0.work;
    }) c.in_err-try_reply.ensures.searched)

pub good_reply_refutes-returns-in_err-try_reply-clause-known :
    goal.good_reply_refutes-returns-in_err-try_reply-clause-known
good_reply_refutes-returns-in_err-try_reply-clause-known g t c all =
    let geo = g.B.Board.geometry in
    let content = g.M.Memo.content in
    let legal = listed_is_legal geo c.args.position.now c.args.legal.now c.replies.reply-index c.reply-item.result
    c.requires.legal c.replies-test.true c.reply-item.is in
    let before = c.replies.invariant.1.1.1 all in
    let here = c.in_err-try_reply.ensures.known (reply_decided geo (content c.args.search.now.memo)
    (content c.replies.search.memo) c.args.position.now (play geo c.args.position.now c.reply-item.result)
    c.reply-item.result c.args.moves c.args.search.now.expanded c.replies.search.expanded all before legal refl) in
    absurd (true≢false (sym here.0))

pub good_reply_refutes-returns-in-Answered-false-clause-refuted :
    goal.good_reply_refutes-returns-in-Answered-false-clause-refuted
good_reply_refutes-returns-in-Answered-false-clause-refuted g t c _ all =
    let geo = g.B.Board.geometry in
    let legal = listed_is_legal geo c.args.position.now c.args.legal.now c.replies.reply-index c.reply-item.result
    c.requires.legal c.replies-test.true c.reply-item.is in
    let after = play geo c.args.position.now c.reply-item.result in
    let answer = subst (IfAnswered (λ yes. IsTrue yes ↔ Win geo after c.args.moves)) c.in-Answered-false.is
    c.in_ok-try_reply.ensures.answer in
    is_not c.in-Answered-false.field-0 (Win geo after c.args.moves) answer c.in-Answered-false.field-0-test
    (all c.reply-item.result legal)

pub good_reply_refutes-returns-in-Answered-false-clause-searched :
    goal.good_reply_refutes-returns-in-Answered-false-clause-searched
good_reply_refutes-returns-in-Answered-false-clause-searched g t c =
    let geo = g.B.Board.geometry in
    let content = g.M.Memo.content in
    let lost = g.M.Memo.dropped in
    searched_ok geo content lost c.args.moves _ _ _ _
    (searched_on geo content lost c.args.moves c.args.search.now c.replies.search c.try_reply.new.search _
    (record {
      right = c.replies.invariant.0;
      count = c.replies.invariant.1.0;
      stop = λ e. absurd (ok_is_no_err _ _ e);
      work = c.replies.invariant.1.1.0.work;
    }) c.in_ok-try_reply.ensures.searched)

pub good_reply_refutes-returns-in-Answered-false-clause-says :
    goal.good_reply_refutes-returns-in-Answered-false-clause-says
good_reply_refutes-returns-in-Answered-false-clause-says g t c kept _ =
    let geo = g.B.Board.geometry in
    let content = g.M.Memo.content in
    let lost = g.M.Memo.dropped in
    let legal = listed_is_legal geo c.args.position.now c.args.legal.now c.replies.reply-index c.reply-item.result
    c.requires.legal c.replies-test.true c.reply-item.is in
    let after = play geo c.args.position.now c.reply-item.result in
    says_refuted geo c.args.moves c.args.position.now c.reply-item.result after c.in-Answered-false.field-0
    (at_time content lost c.args.search.now) (at_time content lost c.replies.search)
    (at_time content lost c.try_reply.new.search) c.replies.invariant.1.1.0.work
    c.in_ok-try_reply.ensures.searched.work legal refl c.in-Answered-false.field-0-test
    (λ k. subst (IfAnswered (SaysWin (content c.try_reply.new.search.memo) after c.args.moves))
    c.in-Answered-false.is (c.in_ok-try_reply.ensures.says k)) kept

pub good_reply_refutes-returns-in-Answered-false-clause-known :
    goal.good_reply_refutes-returns-in-Answered-false-clause-known
good_reply_refutes-returns-in-Answered-false-clause-known g t c all =
    let geo = g.B.Board.geometry in
    let content = g.M.Memo.content in
    let legal = listed_is_legal geo c.args.position.now c.args.legal.now c.replies.reply-index c.reply-item.result
    c.requires.legal c.replies-test.true c.reply-item.is in
    let before = c.replies.invariant.1.1.1 all in
    let here = c.in_ok-try_reply.ensures.known (reply_decided geo (content c.args.search.now.memo)
    (content c.replies.search.memo) c.args.position.now (play geo c.args.position.now c.reply-item.result)
    c.reply-item.result c.args.moves c.args.search.now.expanded c.replies.search.expanded all before legal refl) in (
      (λ none. ok_is_no_err _ _ none),
      unchanged_then (content c.args.search.now.memo) (content c.replies.search.memo)
          (content c.try_reply.new.search.memo) c.args.search.now.expanded c.replies.search.expanded
          c.try_reply.new.search.expanded before here.1,
    )

pub good_reply_refutes-returns-in_err-add_reply-in-PutOff-clause-searched :
    goal.good_reply_refutes-returns-in_err-add_reply-in-PutOff-clause-searched
good_reply_refutes-returns-in_err-add_reply-in-PutOff-clause-searched g t c =
    let geo = g.B.Board.geometry in
    let content = g.M.Memo.content in
    let lost = g.M.Memo.dropped in
    searched_memory geo content lost c.args.moves _ _ _ c.from_residual-in_err-add_reply-in-PutOff.ensures.1
    (searched_on geo content lost c.args.moves c.args.search.now c.replies.search c.try_reply.new.search _
    (record {
      right = c.replies.invariant.0;
      count = c.replies.invariant.1.0;
      stop = λ e. absurd (ok_is_no_err _ _ e);
      work = c.replies.invariant.1.1.0.work;
    }) (searched_ok geo content lost c.args.moves _ _ _ 0 c.in_ok-try_reply.ensures.searched))

pub good_reply_refutes-returns-in_err-add_reply-in-PutOff-clause-known :
    goal.good_reply_refutes-returns-in_err-add_reply-in-PutOff-clause-known
good_reply_refutes-returns-in_err-add_reply-in-PutOff-clause-known g t c all =
    let geo = g.B.Board.geometry in
    let content = g.M.Memo.content in
    let legal = listed_is_legal geo c.args.position.now c.args.legal.now c.replies.reply-index c.reply-item.result
    c.requires.legal c.replies-test.true c.reply-item.is in
    let before = c.replies.invariant.1.1.1 all in
    let here = c.in_ok-try_reply.ensures.known (reply_decided geo (content c.args.search.now.memo)
    (content c.replies.search.memo) c.args.position.now (play geo c.args.position.now c.reply-item.result)
    c.reply-item.result c.args.moves c.args.search.now.expanded c.replies.search.expanded all before legal refl) in (
      (λ e. memory_is_no_limit c.from_residual-in_err-add_reply-in-PutOff.result _
          c.from_residual-in_err-add_reply-in-PutOff.ensures.1 e),
      unchanged_then (content c.args.search.now.memo) (content c.replies.search.memo)
          (content c.try_reply.new.search.memo) c.args.search.now.expanded c.replies.search.expanded
          c.try_reply.new.search.expanded before here.1,
    )

pub good_reply_refutes-replies-preserved : goal.good_reply_refutes-replies-preserved
good_reply_refutes-replies-preserved g t c =
    let geo = g.B.Board.geometry in
    let content = g.M.Memo.content in
    let lost = g.M.Memo.dropped in
    let legal = listed_is_legal geo c.args.position.now c.args.legal.now c.replies.reply-index c.reply-item.result
    c.requires.legal c.replies-test.true c.reply-item.is in
    let after = play geo c.args.position.now c.reply-item.result in
    let first = at_time content lost c.args.search.now in
    let before = at_time content lost c.replies.search in
    let last = at_time content lost c.try_reply.new.search in
    let so_far = c.replies.invariant.1.1.0 in
    let w = c.in_ok-try_reply.ensures.searched.work in (
      c.in_ok-try_reply.ensures.searched.right,
      (
        counted_then c.args.search.now.expanded c.args.search.now.limit c.replies.search.expanded c.replies.search.limit
            c.try_reply.new.search.expanded c.try_reply.new.search.limit c.replies.invariant.1.0
            c.in_ok-try_reply.ensures.searched.count,
        (
          elim c.match-branch-2.branch [
            | good_reply_refutes-in-Answered-true z ↦ rw z.ranked-is
                (put_off_won geo c.args.position.now c.args.moves c.args.legal.now c.replies.reply-index
                (moves_of c.replies.ranked.items) c.reply-item.result first before last so_far c.replies-test.true
                c.reply-item.is w z.in-Answered-true.field-0 z.in-Answered-true.field-0-test
                (subst (IfAnswered (λ yes. IsTrue yes ↔ Win geo after c.args.moves)) z.in-Answered-true.is
                c.in_ok-try_reply.ensures.answer)
                (λ k. subst (IfAnswered (SaysWin last.content after c.args.moves)) z.in-Answered-true.is
                (c.in_ok-try_reply.ensures.says k)))
            | good_reply_refutes-in-PutOff+in_ok-add_reply-in-PutOff z ↦ rw z.ranked-is
                (put_off_more geo c.args.position.now c.args.moves c.args.legal.now c.replies.reply-index
                (moves_of c.replies.ranked.items) c.reply-item.result first before last so_far c.replies-test.true
                c.reply-item.is w (moves_of z.add_reply.new.ranked.items) legal
                (moves_added c.replies.ranked.items z.add_reply.new.ranked.items z.in-PutOff.rank c.reply-item.result
                z.in_ok-add_reply-in-PutOff.ensures))
          ],
          λ all.
              let before = c.replies.invariant.1.1.1 all in
              let here = c.in_ok-try_reply.ensures.known (reply_decided geo (content c.args.search.now.memo)
              (content c.replies.search.memo) c.args.position.now (play geo c.args.position.now c.reply-item.result)
              c.reply-item.result c.args.moves c.args.search.now.expanded c.replies.search.expanded all before legal
              refl) in
              unchanged_then (content c.args.search.now.memo) (content c.replies.search.memo)
              (content c.try_reply.new.search.memo) c.args.search.now.expanded c.replies.search.expanded
              c.try_reply.new.search.expanded before here.1,
        ),
      ),
    )

pub good_reply_refutes-returns-clause-open : goal.good_reply_refutes-returns-clause-open
good_reply_refutes-returns-clause-open g t c = λ _. put_off_all g.B.Board.geometry c.args.position.now c.args.moves
    c.args.legal.now c.replies.reply-index (moves_of c.replies.ranked.items)
    (at_time g.M.Memo.content g.M.Memo.dropped c.args.search.now)
    (at_time g.M.Memo.content g.M.Memo.dropped c.replies.search) c.requires.legal c.replies-test.false
    c.replies.invariant.1.1.0

pub good_reply_refutes-returns-clause-known : goal.good_reply_refutes-returns-clause-known
good_reply_refutes-returns-clause-known g t c all =
    ((λ none. ok_is_no_err _ _ none), c.replies.invariant.1.1.1 all)

pub try_reply-returns-in_err-wins-clause-searched : goal.try_reply-returns-in_err-wins-clause-searched
try_reply-returns-in_err-wins-clause-searched g t c =
    let geo = g.B.Board.geometry in
    let content = g.M.Memo.content in
    let lost = g.M.Memo.dropped in
    let looked = c.known.ensures.looked in
    searched_err geo content lost c.args.moves _ _ c.in_err-wins.field-0.0 _ c.from_residual.ensures.1
    (searched_on geo content lost c.args.moves c.args.search.now c.known.new.search c.expand.new.search _
    (searched_looked geo content lost c.args.moves _ _ c.requires.ready looked.right looked.count looked.limit
    looked.work) c.in_err-wins.ensures.searched)

pub try_reply-returns-in_err-wins-clause-known : goal.try_reply-returns-in_err-wins-clause-known
try_reply-returns-in_err-wins-clause-known g t c known =
    not_known _ (g.M.Memo.content c.args.search.now.memo) (g.M.Memo.content c.known.new.search.memo)
    c.play-after.result c.args.moves c.known.ensures.looked.same c.in_default.ensures.answer
    (subst (λ q. (c.args.moves ≡ 0) ⊎ IsDecided (g.M.Memo.content c.args.search.now.memo) q c.args.moves)
    (sym c.play-after.ensures) known)

pub try_reply-returns-clause-searched : goal.try_reply-returns-clause-searched
try_reply-returns-clause-searched g t c =
    let geo = g.B.Board.geometry in
    let content = g.M.Memo.content in
    let lost = g.M.Memo.dropped in
    let looked = c.known.ensures.looked in
    searched_ok geo content lost c.args.moves _ _ _ _
    (searched_on geo content lost c.args.moves c.args.search.now c.known.new.search c.expand.new.search _
    (searched_looked geo content lost c.args.moves _ _ c.requires.ready looked.right looked.count looked.limit
    looked.work) c.in_ok-wins.ensures.searched)

pub try_reply-returns-clause-says : goal.try_reply-returns-clause-says
try_reply-returns-clause-says g t c kept =
    let content = g.M.Memo.content in
    let lost = g.M.Memo.dropped in
    let first = at_time content lost c.args.search.now in
    let before = at_time content lost c.known.new.search in
    let last = at_time content lost c.expand.new.search in
    subst (λ q. SaysWin last.content q c.args.moves c.in_ok-wins.wins) c.play-after.ensures
    (c.in_ok-wins.ensures.says (second_kept first before last c.known.ensures.looked.work.counted
    c.in_ok-wins.ensures.searched.work.counted kept))

pub try_reply-returns-clause-known : goal.try_reply-returns-clause-known
try_reply-returns-clause-known g t c known =
    not_known _ (g.M.Memo.content c.args.search.now.memo) (g.M.Memo.content c.known.new.search.memo)
    c.play-after.result c.args.moves c.known.ensures.looked.same c.in_default.ensures.answer
    (subst (λ q. (c.args.moves ≡ 0) ⊎ IsDecided (g.M.Memo.content c.args.search.now.memo) q c.args.moves)
    (sym c.play-after.ensures) known)

pub all_replies_lose-replies-init : goal.all_replies_lose-replies-init
all_replies_lose-replies-init g t c =
    let geo = g.B.Board.geometry in (
      c.requires.ready.right,
      (
        counted_none c.args.search.now.expanded c.args.search.now.limit c.requires.ready.within,
        (
          (λ k x low e. absurd (none_below_none k low)),
          tried_none _ _ (Answered geo c.args.position.now c.args.moves) _ _,
          λ all. unchanged_none (g.M.Memo.content c.args.search.now.memo) c.args.search.now.expanded,
        ),
      ),
    )

pub all_replies_lose-play-requires : goal.all_replies_lose-play-requires
all_replies_lose-play-requires g t c =
    put_off_legal g.B.Board.geometry c.args.position.now c.args.ranked.now c.replies.candidate-index
    c.candidate-item.result c.requires.legal c.replies-test.true c.candidate-item.is

pub all_replies_lose-returns-in_err-wins-clause-searched : goal.all_replies_lose-returns-in_err-wins-clause-searched
all_replies_lose-returns-in_err-wins-clause-searched g t c =
    let geo = g.B.Board.geometry in
    let content = g.M.Memo.content in
    let lost = g.M.Memo.dropped in
    searched_err geo content lost c.args.moves _ _ c.in_err-wins.field-0.0 _ c.from_residual.ensures.1
    (searched_on geo content lost c.args.moves c.args.search.now c.replies.search c.wins.new.search _
    (record {
      right = c.replies.invariant.0;
      count = c.replies.invariant.1.0;
      stop = λ e. absurd (ok_is_no_err _ _ e);
      work = c.replies.invariant.1.1.1.0;
    }) c.in_err-wins.ensures.searched)

pub all_replies_lose-returns-in_err-wins-clause-known : goal.all_replies_lose-returns-in_err-wins-clause-known
all_replies_lose-returns-in_err-wins-clause-known g t c all =
    let geo = g.B.Board.geometry in
    let content = g.M.Memo.content in
    let legal = put_off_legal geo c.args.position.now c.args.ranked.now c.replies.candidate-index
    c.candidate-item.result c.requires.legal c.replies-test.true c.candidate-item.is in
    let before = c.replies.invariant.1.1.2 all in
    let here = c.in_err-wins.ensures.known (reply_decided geo (content c.args.search.now.memo)
    (content c.replies.search.memo) c.args.position.now c.play.result
    c.candidate-item.result.1 c.args.moves c.args.search.now.expanded c.replies.search.expanded all before legal
    c.play.ensures) in
    absurd (true≢false (sym here.0))

pub all_replies_lose-returns-then-not-branch-clause-answer : goal.all_replies_lose-returns-then-not-branch-clause-answer
all_replies_lose-returns-then-not-branch-clause-answer g t c =
    let geo = g.B.Board.geometry in
    answer_no (AllWin geo c.args.position.now c.args.moves c.args.ranked.now)
    (one_does_not geo c.args.position.now c.args.moves c.args.ranked.now c.replies.candidate-index
    c.candidate-item.result c.replies-test.true c.candidate-item.is
    (λ win. is_not c.in_ok-wins.field-0 _ c.in_ok-wins.ensures.answer c.if-not-branch.true
    (subst (λ q. Win geo q c.args.moves) (sym c.play.ensures) win)))

pub all_replies_lose-returns-then-not-branch-clause-searched :
    goal.all_replies_lose-returns-then-not-branch-clause-searched
all_replies_lose-returns-then-not-branch-clause-searched g t c =
    let geo = g.B.Board.geometry in
    let content = g.M.Memo.content in
    let lost = g.M.Memo.dropped in
    searched_ok geo content lost c.args.moves _ _ _ _
    (searched_on geo content lost c.args.moves c.args.search.now c.replies.search c.wins.new.search _
    (record {
      right = c.replies.invariant.0;
      count = c.replies.invariant.1.0;
      stop = λ e. absurd (ok_is_no_err _ _ e);
      work = c.replies.invariant.1.1.1.0;
    }) c.in_ok-wins.ensures.searched)

pub all_replies_lose-returns-then-not-branch-clause-says : goal.all_replies_lose-returns-then-not-branch-clause-says
all_replies_lose-returns-then-not-branch-clause-says g t c kept =
    let geo = g.B.Board.geometry in
    let content = g.M.Memo.content in
    let lost = g.M.Memo.dropped in
    let legal = put_off_legal geo c.args.position.now c.args.ranked.now c.replies.candidate-index
    c.candidate-item.result c.requires.legal c.replies-test.true c.candidate-item.is in
    says_not_all geo (content c.wins.new.search.memo) c.args.position.now c.args.moves c.args.ranked.now
    (says_refuted geo c.args.moves c.args.position.now c.candidate-item.result.1 c.play.result c.in_ok-wins.field-0
    (at_time content lost c.args.search.now) (at_time content lost c.replies.search)
    (at_time content lost c.wins.new.search) c.replies.invariant.1.1.1.0 c.in_ok-wins.ensures.searched.work legal
    c.play.ensures c.if-not-branch.true c.in_ok-wins.ensures.says kept)

pub all_replies_lose-returns-then-not-branch-clause-known : goal.all_replies_lose-returns-then-not-branch-clause-known
all_replies_lose-returns-then-not-branch-clause-known g t c all =
    let geo = g.B.Board.geometry in
    let content = g.M.Memo.content in
    let legal = put_off_legal geo c.args.position.now c.args.ranked.now c.replies.candidate-index
    c.candidate-item.result c.requires.legal c.replies-test.true c.candidate-item.is in
    let before = c.replies.invariant.1.1.2 all in
    let here = c.in_ok-wins.ensures.known (reply_decided geo (content c.args.search.now.memo)
    (content c.replies.search.memo) c.args.position.now c.play.result
    c.candidate-item.result.1 c.args.moves c.args.search.now.expanded c.replies.search.expanded all before legal
    c.play.ensures) in (
      (λ none. ok_is_no_err _ _ none),
      unchanged_then (content c.args.search.now.memo) (content c.replies.search.memo)
          (content c.wins.new.search.memo) c.args.search.now.expanded c.replies.search.expanded
          c.wins.new.search.expanded before here.1,
    )

pub all_replies_lose-replies-preserved : goal.all_replies_lose-replies-preserved
all_replies_lose-replies-preserved g t c =
    let geo = g.B.Board.geometry in
    let content = g.M.Memo.content in
    let lost = g.M.Memo.dropped in
    let legal = put_off_legal geo c.args.position.now c.args.ranked.now c.replies.candidate-index
    c.candidate-item.result c.requires.legal c.replies-test.true c.candidate-item.is in
    let won = subst (λ q. Win geo q c.args.moves) c.play.ensures
    (is_so c.in_ok-wins.field-0 _ c.in_ok-wins.ensures.answer c.if-not-branch.false) in (
      c.in_ok-wins.ensures.searched.right,
      (
        counted_then c.args.search.now.expanded c.args.search.now.limit c.replies.search.expanded c.replies.search.limit
            c.wins.new.search.expanded c.wins.new.search.limit c.replies.invariant.1.0
            c.in_ok-wins.ensures.searched.count,
        (
          below_more (λ r. Win geo (play geo c.args.position.now r) c.args.moves) c.args.ranked.now
              c.replies.candidate-index c.candidate-item.result c.replies.invariant.1.1.0 c.replies-test.true
              c.candidate-item.is won,
          answered_more geo c.args.moves c.args.position.now c.args.ranked.now
              c.replies.candidate-index c.candidate-item.result c.play.result c.in_ok-wins.field-0
              (at_time content lost c.args.search.now) (at_time content lost c.replies.search)
              (at_time content lost c.wins.new.search)
              c.replies.invariant.1.1.1 c.replies-test.true c.candidate-item.is c.play.ensures c.if-not-branch.false
              c.in_ok-wins.ensures.searched.work c.in_ok-wins.ensures.says,
          λ all.
              let before = c.replies.invariant.1.1.2 all in
              let here = c.in_ok-wins.ensures.known (reply_decided geo (content c.args.search.now.memo)
              (content c.replies.search.memo) c.args.position.now c.play.result
              c.candidate-item.result.1 c.args.moves c.args.search.now.expanded c.replies.search.expanded all before
              legal c.play.ensures) in
              unchanged_then (content c.args.search.now.memo) (content c.replies.search.memo)
              (content c.wins.new.search.memo) c.args.search.now.expanded c.replies.search.expanded
              c.wins.new.search.expanded before here.1,
        ),
      ),
    )

pub all_replies_lose-returns-clause-answer : goal.all_replies_lose-returns-clause-answer
all_replies_lose-returns-clause-answer g t c =
    answer_yes (AllWin g.B.Board.geometry c.args.position.now c.args.moves c.args.ranked.now)
    (all_win g.B.Board.geometry c.args.position.now c.args.moves c.args.ranked.now c.replies.candidate-index
    c.replies-test.false c.replies.invariant.1.1.0)

pub all_replies_lose-returns-clause-says : goal.all_replies_lose-returns-clause-says
all_replies_lose-returns-clause-says g t c =
    says_all g.B.Board.geometry c.args.moves c.args.position.now c.args.ranked.now c.replies.candidate-index
    (at_time g.M.Memo.content g.M.Memo.dropped c.args.search.now)
    (at_time g.M.Memo.content g.M.Memo.dropped c.replies.search) c.replies-test.false c.replies.invariant.1.1.1

pub all_replies_lose-returns-clause-known : goal.all_replies_lose-returns-clause-known
all_replies_lose-returns-clause-known g t c all =
    ((λ none. ok_is_no_err _ _ none), c.replies.invariant.1.1.2 all)
