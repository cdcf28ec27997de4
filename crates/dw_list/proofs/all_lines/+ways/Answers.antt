use Rattle.std.proofs.Common.{◌≡◌, refl, sym, ap, ◌∙◌, subst, arith, map, true, ◌⊎◌, ◌<◌, length}
use Rattle.dw_moves.specs.Order.{Precedes, IsListOf}
use Rattle.dw_moves.specs.Moves.{Legal}
use Rattle.dw_list.specs.inner.Ways.{AreWays}
use Rattle.dw_list.proofs.WayLemmas.{no_ways}
use Rattle.dw_list.proofs.GatheringLemmas.{added_kept, added_none, among_none, added_more, ways_over, ways_whole}
use Rattle.dw_list.proofs.GatheringLemmas.{measure_falls, left_within, legal_at}
use Rattle.dw_solve.specs.inner.QuestionLemmas.{answered, asked_none, asked_then, asked_wider, asked_ok, asked_stop}
use Rattle.dw_solve.specs.inner.QuestionLemmas.{asked_memory}
use Rattle.dw_list.proofs.all_lines.+ways.Goals as goal

pub push_ways-returns-in_err-behind-clause-asked : goal.push_ways-returns-in_err-behind-clause-asked
push_ways-returns-in_err-behind-clause-asked g t c =
    let geo = g.B.Board.geometry in
    let content = g.M.Memo.content in
    let lost = g.M.Memo.dropped in
    asked_then geo content lost c.searches_add_up.ensures c.args.left _ _ _ _ (asked_ok geo content lost c.args.left _ _
    _ 0 c.in_ok-keeps.ensures.asked)
    (asked_stop geo content lost c.args.left _ _ c.in_err-behind.field-0.0 _ c.from_residual-in_err-behind.ensures.1
    c.in_err-behind.ensures.asked)

pub push_ways-returns-in_err-push_each-clause-asked : goal.push_ways-returns-in_err-push_each-clause-asked
push_ways-returns-in_err-push_each-clause-asked g t c =
    let geo = g.B.Board.geometry in
    let content = g.M.Memo.content in
    let lost = g.M.Memo.dropped in
    asked_memory geo content lost c.args.left _ _ _ c.from_residual-in_err-push_each.ensures.1
    (asked_then geo content lost c.searches_add_up.ensures c.args.left _ _ _ _ (asked_ok geo content lost c.args.left _
    _ _ 0 c.in_ok-keeps.ensures.asked)
    (asked_ok geo content lost c.args.left _ _ _ 0 c.in_ok-behind.ensures.asked))

pub push_ways-returns-in_ok-push_each-clause-added : goal.push_ways-returns-in_ok-push_each-clause-added
push_ways-returns-in_ok-push_each-clause-added g t c =
    added_kept (λ list. list.items) g.B.Board.geometry c.args.attacks c.args.position.now c.play-after.result
    c.args.left c.args.mv.now c.in_ok-behind.behind.items c.as_slice.result.now _ _
    c.play-after.ensures (c.in_ok-keeps.ensures.answer.0 c.if-branch.true) c.in_ok-behind.ensures.ways
    c.as_slice.ensures.value c.in_ok-push_each.ensures

pub push_ways-returns-in_ok-push_each-clause-asked : goal.push_ways-returns-in_ok-push_each-clause-asked
push_ways-returns-in_ok-push_each-clause-asked g t c =
    let geo = g.B.Board.geometry in
    let content = g.M.Memo.content in
    let lost = g.M.Memo.dropped in
    asked_then geo content lost c.searches_add_up.ensures c.args.left _ _ _ _ (asked_ok geo content lost c.args.left _ _
    _ 0 c.in_ok-keeps.ensures.asked)
    (asked_ok geo content lost c.args.left _ _ _ tt c.in_ok-behind.ensures.asked)

pub push_ways-returns-else-branch-clause-added : goal.push_ways-returns-else-branch-clause-added
push_ways-returns-else-branch-clause-added g t c =
    added_none g.B.Board.geometry c.args.attacks c.args.position.now c.play-after.result c.args.left c.args.mv.now _
    c.play-after.ensures
    (λ h. let yes = c.in_ok-keeps.ensures.answer.1 h in let not_so = c.if-branch.false in cc)

pub ways-returns-then-not-may_move-clause-asked : goal.ways-returns-then-not-may_move-clause-asked
ways-returns-then-not-may_move-clause-asked g t c =
    let geo = g.B.Board.geometry in
    asked_ok geo g.M.Memo.content g.M.Memo.dropped c.args.moves _ _ 0 _
    (asked_none geo g.M.Memo.content g.M.Memo.dropped c.searches_add_up.ensures c.args.moves _
    c.keeps_its_limit.ensures)

pub ways-returns-then-not-may_move-clause-ways : goal.ways-returns-then-not-may_move-clause-ways
ways-returns-then-not-may_move-clause-ways g t c =
    let geo = g.B.Board.geometry in
    subst (AreWays geo c.args.attacks c.args.position.now c.args.moves)
    (sym (ap (map (λ list. list.items)) c.new.ensures.items))
    (ways_over geo c.args.attacks c.args.position.now c.args.moves (λ h. let yes = c.may_move.ensures.1 h in
    let not_so = c.if-not-may_move.true in cc))

pub ways-returns-in_err-list-clause-asked : goal.ways-returns-in_err-list-clause-asked
ways-returns-in_err-list-clause-asked g t c =
    let geo = g.B.Board.geometry in
    asked_memory geo g.M.Memo.content g.M.Memo.dropped c.args.moves _ _ _ c.from_residual.ensures.1
    (asked_none geo g.M.Memo.content g.M.Memo.dropped c.searches_add_up.ensures c.args.moves _
    c.keeps_its_limit.ensures)

pub ways-returns-in_err-lists-clause-asked : goal.ways-returns-in_err-lists-clause-asked
ways-returns-in_err-lists-clause-asked g t c =
    let geo = g.B.Board.geometry in
    asked_memory geo g.M.Memo.content g.M.Memo.dropped c.args.moves _ _ _ c.from_residual-in_err-lists.ensures.1
    (asked_none geo g.M.Memo.content g.M.Memo.dropped c.searches_add_up.ensures c.args.moves _
    c.keeps_its_limit.ensures)

pub ways-moves-init : goal.ways-moves-init
ways-moves-init g t c =
    let geo = g.B.Board.geometry in
    record {
      among = λ some. among_none geo c.args.attacks c.args.position.now c.args.moves _
          (c.in_ok-lists.ensures.some (subst (λ z. (c.args.attacks ≡ true)
          ⊎ (0 < length z)) (c.as_slice-item-items.ensures.value ∙ sym c.as_slice.ensures.value) some))
          (no_ways geo c.args.attacks c.args.position.now c.args.moves);
      none = λ e. refl;
      asked = asked_none geo g.M.Memo.content g.M.Memo.dropped c.searches_add_up.ensures c.args.moves _
          c.keeps_its_limit.ensures;
    }

pub ways-push_ways-requires : goal.ways-push_ways-requires
ways-push_ways-requires g t c κs within =
    let geo = g.B.Board.geometry in
    let all = subst (λ z. IsListOf (Precedes geo c.args.position.now) (Legal geo c.args.position.now)
    (map (λ item. item.step) z)) (sym c.as_slice-item-items.ensures.value) c.in_ok-list.ensures.in_order in
    let may = c.may_move.ensures.0 c.if-not-may_move.false in
    let less = left_within c.args.attacks c.args.moves c.left_behind-left.result c.left_behind-left.ensures in
    let fall = measure_falls c.args.attacks c.args.moves c.left_behind-left.result may c.left_behind-left.ensures in
    let f = c.decreases in
    let here = legal_at (λ item. item.step) geo c.args.position.now c.as_slice-item-items.result.now c.moves.item-index
    c.item-item.result c.item.inside.step all c.moves-test.true c.item-item.is
    (sym (ap (λ l. l.step) c.item.view_is)) in
    (omega (arith, f, fall), (within.0, (within.1.0, (within.1.1, (here, omega (arith, less, c.requires))))))

pub ways-returns-in_err-push_ways-clause-asked : goal.ways-returns-in_err-push_ways-clause-asked
ways-returns-in_err-push_ways-clause-asked g t c =
    let geo = g.B.Board.geometry in
    let content = g.M.Memo.content in
    let lost = g.M.Memo.dropped in
    let less = left_within c.args.attacks c.args.moves c.left_behind-left.result c.left_behind-left.ensures in
    asked_then geo content lost c.searches_add_up.ensures c.args.moves _ _ _ _ c.moves.invariant.asked
    (asked_wider geo content lost c.searches_add_up.ensures c.left_behind-left.result c.args.moves _ _ _ less
    (asked_stop geo content lost c.left_behind-left.result _ _ c.in_err-push_ways.field-0.0 _
    c.from_residual-in_err-push_ways.ensures.1 c.in_err-push_ways.ensures.asked))

pub ways-moves-preserved : goal.ways-moves-preserved
ways-moves-preserved g t c =
    let geo = g.B.Board.geometry in
    let content = g.M.Memo.content in
    let lost = g.M.Memo.dropped in
    let all = subst (λ z. IsListOf (Precedes geo c.args.position.now) (Legal geo c.args.position.now)
    (map (λ item. item.step) z)) (sym c.as_slice-item-items.ensures.value) c.in_ok-list.ensures.in_order in
    let may = c.may_move.ensures.0 c.if-not-may_move.false in
    let less = left_within c.args.attacks c.args.moves c.left_behind-left.result c.left_behind-left.ensures in
    record {
      among = λ some. added_more (λ item. item.step) geo c.args.attacks c.args.position.now c.args.moves
          c.left_behind-left.result c.as_slice-item-items.result.now c.moves.item-index c.item-item.result
          c.item.inside.step _ _
          may c.left_behind-left.ensures all c.moves-test.true c.item-item.is (sym (ap (λ l. l.step) c.item.view_is))
          (c.moves.invariant.among some) c.in_ok-push_ways.ensures.added;
      none = λ e. let low = c.moves-test.true in absurd (omega arith);
      asked = asked_then geo content lost c.searches_add_up.ensures c.args.moves _ _ _ answered c.moves.invariant.asked
          (asked_wider geo content lost c.searches_add_up.ensures c.left_behind-left.result c.args.moves _ _ answered
          less
          (asked_ok geo content lost c.left_behind-left.result _ _ _ 0 c.in_ok-push_ways.ensures.asked));
    }

pub ways-returns-clause-ways : goal.ways-returns-clause-ways
ways-returns-clause-ways g t c =
    let geo = g.B.Board.geometry in
    let all = subst (λ z. IsListOf (Precedes geo c.args.position.now) (Legal geo c.args.position.now)
    (map (λ item. item.step) z)) (sym c.as_slice-item-items.ensures.value) c.in_ok-list.ensures.in_order in
    ways_whole (λ item. item.step) geo c.args.attacks c.args.position.now c.args.moves c.as_slice-item-items.result.now
    c.moves.item-index _ _ all (omega (arith, c.moves-test.false, c.moves.auto.item-index-end))
    c.moves.invariant.among c.moves.invariant.none
    (λ e k. c.in_ok-lists.ensures.none e (subst (λ z. length z ≡ 0) (c.as_slice-item-items.ensures.value
    ∙ sym c.as_slice.ensures.value) k))

pub push_ways-returns-in_err-keeps-clause-asked : goal.push_ways-returns-in_err-keeps-clause-asked
push_ways-returns-in_err-keeps-clause-asked g t c = asked_stop g.B.Board.geometry g.M.Memo.content g.M.Memo.dropped
    c.args.left _ _ c.in_err-keeps.field-0.0 _ c.from_residual.ensures.1 c.in_err-keeps.ensures.asked

pub push_ways-returns-else-branch-clause-asked : goal.push_ways-returns-else-branch-clause-asked
push_ways-returns-else-branch-clause-asked g t c = asked_ok g.B.Board.geometry g.M.Memo.content g.M.Memo.dropped
    c.args.left _ _ _ tt c.in_ok-keeps.ensures.asked

pub ways-returns-clause-asked : goal.ways-returns-clause-asked
ways-returns-clause-asked g t c = asked_ok g.B.Board.geometry g.M.Memo.content g.M.Memo.dropped c.args.moves _ _ 0 _
    c.moves.invariant.asked
