use Rattle.std.proofs.Common.{◌≡◌, ◌-◌, ◌≤◌, ◌∷◌, map, sym, ap, ◌∙◌, subst, arith, Some, None}
use Rattle.std.specs.Prelude.{option_map}
use Rattle.std.proofs.lemmas.Result.{IfOk-weaker}
use Rattle.dw_moves.specs.Moves.{Legal, play}
use Rattle.dw_moves.specs.Order.{Precedes, IsListOf}
use Rattle.dw_solve.specs.Lines.{Before}
use Rattle.dw_solve.specs.inner.QuestionLemmas.{answered, asked_none, asked_then, asked_wider, asked_ok, asked_stop}
use Rattle.dw_solve.specs.inner.QuestionLemmas.{asked_memory}
use Rattle.dw_verdict.specs.Verdict.{IsWinning, Keys}
use Rattle.dw_verdict.specs.inner.Judging.{LeadsToChoices, ComesToChoices, RepliesToChoices, FindsLeast, parts_of}
use Rattle.dw_verdict.specs.inner.GatheredLemmas.{item_among}
use Rattle.dw_verdict.proofs.ChoiceLemmas.{leads_begin, replies_begin, comes_later}
use Rattle.dw_verdict.specs.inner.WinningLemmas.{winning_legal}
use Rattle.dw_verdict.proofs.ChoiceLoopLemmas.{none_to_more, none_to_all, found_at, map_same, after_key, some_left}
use Rattle.dw_verdict.proofs.ChoiceLoopLemmas.{room_for_key, room_for_reply, after_reply, least_is, first_here}
use Rattle.dw_verdict.proofs.dual.+first_choice.Goals as goal

pub choice_after_reply-returns-in_err-list-clause-asked : goal.choice_after_reply-returns-in_err-list-clause-asked
choice_after_reply-returns-in_err-list-clause-asked g t c =
    let geo = g.B.Board.geometry in
    let content = g.M.Memo.content in
    let lost = g.M.Memo.dropped in
    let law = c.searches_add_up.ensures in
    asked_memory geo content lost c.args.left _ _ _ c.from_residual.ensures.1
    (asked_none geo content lost law c.args.left _ c.keeps_its_limit.ensures)

pub choice_after_reply-replies-init : goal.choice_after_reply-replies-init
choice_after_reply-replies-init g t c =
    let geo = g.B.Board.geometry in
    let content = g.M.Memo.content in
    let lost = g.M.Memo.dropped in
    let law = c.searches_add_up.ensures in
    record { none = λ m k. absurd k; asked = asked_none geo content lost law c.args.left _ c.keeps_its_limit.ensures }

pub choice_after_reply-play-after-requires : goal.choice_after_reply-play-after-requires
choice_after_reply-play-after-requires g t c =
    let geo = g.B.Board.geometry in
    let q = c.args.position.now in
    let n = c.args.left in
    let items = c.as_slice-item-items.result.now in
    let all = subst (λ z. IsListOf (Precedes geo q) (Legal geo q) (map (λ item. item.step) z))
    (sym c.as_slice-item-items.ensures.value) c.in_ok-list.ensures.in_order in
    let is = ap (λ l. l.step) c.item.view_is in
    let legal = item_among (λ item. item.step) (Precedes geo q) (Legal geo q) items c.replies.item-index
    c.item-item.result all c.replies-test.true c.item-item.is in
    subst (Legal geo q) (sym is) legal

pub choice_after_reply-returns-in_err-found-clause-asked : goal.choice_after_reply-returns-in_err-found-clause-asked
choice_after_reply-returns-in_err-found-clause-asked g t c =
    let geo = g.B.Board.geometry in
    let content = g.M.Memo.content in
    let lost = g.M.Memo.dropped in
    let law = c.searches_add_up.ensures in
    asked_then geo content lost law c.args.left c.args.solver.now c.replies.solver c.choice_from.new.solver
    c.from_residual-in_err-found.result c.replies.invariant.asked
    (asked_stop geo content lost c.args.left c.replies.solver c.choice_from.new.solver c.in_err-found.field-0.0
    c.from_residual-in_err-found.result c.from_residual-in_err-found.ensures.1
    c.in_err-found.ensures.asked)

pub choice_after_reply-with_first-requires : goal.choice_after_reply-with_first-requires
choice_after_reply-with_first-requires g t c =
    let geo = g.B.Board.geometry in
    let q = c.args.position.now in
    let n = c.args.left in
    let items = c.as_slice-item-items.result.now in
    let all = subst (λ z. IsListOf (Precedes geo q) (Legal geo q) (map (λ item. item.step) z))
    (sym c.as_slice-item-items.ensures.value) c.in_ok-list.ensures.in_order in
    let is = ap (λ l. l.step) c.item.view_is in
    let there = c.play-after.ensures ∙ ap (play geo q) is in
    let legal = item_among (λ item. item.step) (Precedes geo q) (Legal geo q) items c.replies.item-index
    c.item-item.result all c.replies-test.true c.item-item.is in
    let found = subst (λ z. FindsLeast (Before geo c.play-after.result) (ComesToChoices geo n c.play-after.result)
    (option_map parts_of z)) c.in-Some.is c.in_ok-found.ensures.found in
    let behind = after_reply geo n q c.play-after.result c.item-item.result.step (Some (parts_of c.in-Some.dual)) there
    legal found in (
      omega arith,
      room_for_reply geo n q c.item-item.result.step c.in-Some.dual.at.items c.in-Some.dual.choices.items
          c.requires behind.is,
    )

pub choice_after_reply-returns-in-Some-clause-found : goal.choice_after_reply-returns-in-Some-clause-found
choice_after_reply-returns-in-Some-clause-found g t c =
    let geo = g.B.Board.geometry in
    let q = c.args.position.now in
    let n = c.args.left in
    let items = c.as_slice-item-items.result.now in
    let all = subst (λ z. IsListOf (Precedes geo q) (Legal geo q) (map (λ item. item.step) z))
    (sym c.as_slice-item-items.ensures.value) c.in_ok-list.ensures.in_order in
    let is = ap (λ l. l.step) c.item.view_is in
    let there = c.play-after.ensures ∙ ap (play geo q) is in
    let legal = item_among (λ item. item.step) (Precedes geo q) (Legal geo q) items c.replies.item-index
    c.item-item.result all c.replies-test.true c.item-item.is in
    let found = subst (λ z. FindsLeast (Before geo c.play-after.result) (ComesToChoices geo n c.play-after.result)
    (option_map parts_of z)) c.in-Some.is c.in_ok-found.ensures.found in
    let behind = after_reply geo n q c.play-after.result c.item-item.result.step (Some (parts_of c.in-Some.dual)) there
    legal found in
    least_is (Before geo q) (RepliesToChoices geo n q) _ _ (c.item-item.result.step ∷ c.in-Some.dual.at.items)
    c.in-Some.dual.choices.items
    (c.with_first.ensures.at ∙ ap (λ z. z ∷ c.in-Some.dual.at.items) is) c.with_first.ensures.choices
    (found_at c.moves_have_keys.ensures (λ item. item.step) geo q (RepliesToChoices geo n q) items c.replies.item-index
    c.item-item.result c.in-Some.dual.at.items c.in-Some.dual.choices.items
    (replies_begin geo n q _ all) all.ascending c.replies-test.true c.item-item.is c.replies.invariant.none behind)

pub choice_after_reply-returns-in-Some-clause-asked : goal.choice_after_reply-returns-in-Some-clause-asked
choice_after_reply-returns-in-Some-clause-asked g t c =
    let geo = g.B.Board.geometry in
    let content = g.M.Memo.content in
    let lost = g.M.Memo.dropped in
    let law = c.searches_add_up.ensures in
    asked_then geo content lost law c.args.left c.args.solver.now c.replies.solver c.choice_from.new.solver _
    c.replies.invariant.asked
    (asked_ok geo content lost c.args.left c.replies.solver c.choice_from.new.solver _ _ c.in_ok-found.ensures.asked)

pub choice_after_reply-replies-preserved : goal.choice_after_reply-replies-preserved
choice_after_reply-replies-preserved g t c =
    let geo = g.B.Board.geometry in
    let q = c.args.position.now in
    let n = c.args.left in
    let items = c.as_slice-item-items.result.now in
    let all = subst (λ z. IsListOf (Precedes geo q) (Legal geo q) (map (λ item. item.step) z))
    (sym c.as_slice-item-items.ensures.value) c.in_ok-list.ensures.in_order in
    let is = ap (λ l. l.step) c.item.view_is in
    let there = c.play-after.ensures ∙ ap (play geo q) is in
    let legal = item_among (λ item. item.step) (Precedes geo q) (Legal geo q) items c.replies.item-index
    c.item-item.result all c.replies-test.true c.item-item.is in
    let content = g.M.Memo.content in
    let lost = g.M.Memo.dropped in
    let found = subst (λ z. FindsLeast (Before geo c.play-after.result) (ComesToChoices geo n c.play-after.result)
    (option_map parts_of z)) c.in_default.is c.in_ok-found.ensures.found in
    record {
      none = none_to_more (λ item. item.step) (RepliesToChoices geo n q) items c.replies.item-index c.item-item.result
          c.replies-test.true c.item-item.is
          (after_reply geo n q c.play-after.result c.item-item.result.step None there legal found)
          c.replies.invariant.none;
      asked = asked_then geo content lost c.searches_add_up.ensures n c.args.solver.now c.replies.solver
          c.choice_from.new.solver answered c.replies.invariant.asked
          (asked_ok geo content lost n c.replies.solver c.choice_from.new.solver _ 0 c.in_ok-found.ensures.asked);
    }

pub choice_after_reply-returns-clause-found : goal.choice_after_reply-returns-clause-found
choice_after_reply-returns-clause-found g t c =
    let geo = g.B.Board.geometry in
    let q = c.args.position.now in
    let n = c.args.left in
    let items = c.as_slice-item-items.result.now in
    let all = subst (λ z. IsListOf (Precedes geo q) (Legal geo q) (map (λ item. item.step) z))
    (sym c.as_slice-item-items.ensures.value) c.in_ok-list.ensures.in_order in
    none_to_all (λ item. item.step) (RepliesToChoices geo n q) items c.replies.item-index
    (omega (arith, c.replies-test.false)) (replies_begin geo n q _ all) c.replies.invariant.none

pub choice_from-returns-clause-found : goal.choice_from-returns-clause-found
choice_from-returns-clause-found g t c =
    let geo = g.B.Board.geometry in
    let x = c.args.position.now in
    let n = c.args.left in
    IfOk-weaker c.first_choice.result (λ found. FindsLeast (Before geo x) (LeadsToChoices geo n x)
    (option_map parts_of found))
    (λ found. FindsLeast (Before geo x) (ComesToChoices geo n x) (option_map parts_of found))
    (λ found h. comes_later c.moves_have_keys.ensures geo n x c.in_ok-choices.choices.items (option_map parts_of found)
    c.in_ok-choices.ensures.keys (λ two. omega (arith, two, c.if-len-ge2.false, c.len.ensures)) h)
    c.first_choice.ensures.found

pub choice_from-returns-clause-asked : goal.choice_from-returns-clause-asked
choice_from-returns-clause-asked g t c =
    let geo = g.B.Board.geometry in
    let content = g.M.Memo.content in
    let lost = g.M.Memo.dropped in
    let law = c.searches_add_up.ensures in
    asked_then geo content lost law c.args.left c.args.solver.now c.keys.new.solver c.first_choice.new.solver
    c.first_choice.result (asked_ok geo content lost c.args.left c.args.solver.now c.keys.new.solver _ 0
    c.in_ok-choices.ensures.asked) c.first_choice.ensures.asked

pub first_choice-keys-init : goal.first_choice-keys-init
first_choice-keys-init g t c =
    let geo = g.B.Board.geometry in
    let content = g.M.Memo.content in
    let lost = g.M.Memo.dropped in
    let law = c.searches_add_up.ensures in
    record { none = λ m k. absurd k; asked = asked_none geo content lost law c.args.moves _ c.keeps_its_limit.ensures }

pub first_choice-play-after-requires : goal.first_choice-play-after-requires
first_choice-play-after-requires g t c =
    let geo = g.B.Board.geometry in
    let p = c.args.position.now in
    let n = c.args.moves in
    let keys = c.args.keys.now in
    let all = subst (IsListOf (Precedes geo p) (IsWinning geo p n)) (sym (map_same keys)) c.requires.keys in
    let key = item_among (λ m. m) (Precedes geo p) (IsWinning geo p n) keys c.keys.key-index c.key-item.result all
    c.keys-test.true c.key-item.is in
    winning_legal geo p n c.key-item.result key

pub first_choice-choice_after_reply-requires : goal.first_choice-choice_after_reply-requires
first_choice-choice_after_reply-requires g t c κs within =
    let geo = g.B.Board.geometry in
    let p = c.args.position.now in
    let n = c.args.moves in
    let keys = c.args.keys.now in
    let all = subst (IsListOf (Precedes geo p) (IsWinning geo p n)) (sym (map_same keys)) c.requires.keys in
    let key = item_among (λ m. m) (Precedes geo p) (IsWinning geo p n) keys c.keys.key-index c.key-item.result all
    c.keys-test.true c.key-item.is in
    let some = some_left geo p n c.key-item.result key in
    let fall = c.decreases in
    let left = c.saturating_sub.ensures in (
      omega (arith, fall, some, left),
      (within.0, (within.1.0, (within.1.1, (omega arith, omega (arith, left, c.requires.few))))),
    )

pub first_choice-returns-in_err-found-clause-asked : goal.first_choice-returns-in_err-found-clause-asked
first_choice-returns-in_err-found-clause-asked g t c =
    let geo = g.B.Board.geometry in
    let content = g.M.Memo.content in
    let lost = g.M.Memo.dropped in
    let law = c.searches_add_up.ensures in
    let sub = c.saturating_sub.ensures in
    let less : c.saturating_sub.result ≤ c.args.moves = omega (arith, sub) in
    asked_then geo content lost law c.args.moves c.args.solver.now c.keys.solver c.choice_after_reply.new.solver
    c.from_residual.result c.keys.invariant.asked
    (asked_wider geo content lost law c.saturating_sub.result c.args.moves c.keys.solver
    c.choice_after_reply.new.solver c.from_residual.result less
    (asked_stop geo content lost c.saturating_sub.result c.keys.solver c.choice_after_reply.new.solver
    c.in_err-found.field-0.0 c.from_residual.result c.from_residual.ensures.1
    c.in_err-found.ensures.asked))

pub first_choice-with_first-requires : goal.first_choice-with_first-requires
first_choice-with_first-requires g t c =
    let geo = g.B.Board.geometry in
    let p = c.args.position.now in
    let n = c.args.moves in
    let keys = c.args.keys.now in
    let all = subst (IsListOf (Precedes geo p) (IsWinning geo p n)) (sym (map_same keys)) c.requires.keys in
    let key = item_among (λ m. m) (Precedes geo p) (IsWinning geo p n) keys c.keys.key-index c.key-item.result all
    c.keys-test.true c.key-item.is in
    let sub = c.saturating_sub.ensures in
    let one_less : c.saturating_sub.result ≡ n - 1 = omega (arith, sub) in
    let found = subst (λ k. FindsLeast (Before geo c.play-after.result) (RepliesToChoices geo k c.play-after.result)
    (Some (parts_of c.in-Some.dual))) one_less
    (subst (λ z. FindsLeast (Before geo c.play-after.result) (RepliesToChoices geo c.saturating_sub.result
    c.play-after.result) (option_map parts_of z)) c.in-Some.is c.in_ok-found.ensures.found) in
    let behind = after_key geo n p c.play-after.result c.key-item.result (Some (parts_of c.in-Some.dual))
    c.play-after.ensures key found in (
      omega arith,
      room_for_key geo n p c.key-item.result c.in-Some.dual.at.items c.in-Some.dual.choices.items
          c.requires.few behind.is,
    )

pub first_choice-returns-in-Some-clause-found : goal.first_choice-returns-in-Some-clause-found
first_choice-returns-in-Some-clause-found g t c =
    let geo = g.B.Board.geometry in
    let p = c.args.position.now in
    let n = c.args.moves in
    let keys = c.args.keys.now in
    let all = subst (IsListOf (Precedes geo p) (IsWinning geo p n)) (sym (map_same keys)) c.requires.keys in
    let key = item_among (λ m. m) (Precedes geo p) (IsWinning geo p n) keys c.keys.key-index c.key-item.result all
    c.keys-test.true c.key-item.is in
    let sub = c.saturating_sub.ensures in
    let one_less : c.saturating_sub.result ≡ n - 1 = omega (arith, sub) in
    let found = subst (λ k. FindsLeast (Before geo c.play-after.result) (RepliesToChoices geo k c.play-after.result)
    (Some (parts_of c.in-Some.dual))) one_less
    (subst (λ z. FindsLeast (Before geo c.play-after.result) (RepliesToChoices geo c.saturating_sub.result
    c.play-after.result) (option_map parts_of z)) c.in-Some.is c.in_ok-found.ensures.found) in
    let behind = after_key geo n p c.play-after.result c.key-item.result (Some (parts_of c.in-Some.dual))
    c.play-after.ensures key found in
    least_is (Before geo p) (LeadsToChoices geo n p) _ _ (c.key-item.result ∷ c.in-Some.dual.at.items)
    c.in-Some.dual.choices.items c.with_first.ensures.at c.with_first.ensures.choices
    (found_at c.moves_have_keys.ensures (λ m. m) geo p (LeadsToChoices geo n p) keys c.keys.key-index c.key-item.result
    c.in-Some.dual.at.items c.in-Some.dual.choices.items
    (leads_begin geo n p _ all) all.ascending c.keys-test.true c.key-item.is c.keys.invariant.none behind)

pub first_choice-returns-in-Some-clause-asked : goal.first_choice-returns-in-Some-clause-asked
first_choice-returns-in-Some-clause-asked g t c =
    let geo = g.B.Board.geometry in
    let content = g.M.Memo.content in
    let lost = g.M.Memo.dropped in
    let law = c.searches_add_up.ensures in
    let sub = c.saturating_sub.ensures in
    let less : c.saturating_sub.result ≤ c.args.moves = omega (arith, sub) in
    asked_then geo content lost law c.args.moves c.args.solver.now c.keys.solver c.choice_after_reply.new.solver _
    c.keys.invariant.asked
    (asked_wider geo content lost law c.saturating_sub.result c.args.moves c.keys.solver
    c.choice_after_reply.new.solver _ less
    (asked_ok geo content lost c.saturating_sub.result c.keys.solver c.choice_after_reply.new.solver _ _
    c.in_ok-found.ensures.asked))

pub first_choice-keys-preserved : goal.first_choice-keys-preserved
first_choice-keys-preserved g t c =
    let geo = g.B.Board.geometry in
    let p = c.args.position.now in
    let n = c.args.moves in
    let keys = c.args.keys.now in
    let all = subst (IsListOf (Precedes geo p) (IsWinning geo p n)) (sym (map_same keys)) c.requires.keys in
    let key = item_among (λ m. m) (Precedes geo p) (IsWinning geo p n) keys c.keys.key-index c.key-item.result all
    c.keys-test.true c.key-item.is in
    let sub = c.saturating_sub.ensures in
    let less : c.saturating_sub.result ≤ c.args.moves = omega (arith, sub) in
    let content = g.M.Memo.content in
    let lost = g.M.Memo.dropped in
    let one_less : c.saturating_sub.result ≡ n - 1 = omega (arith, sub) in
    let found = subst (λ k. FindsLeast (Before geo c.play-after.result) (RepliesToChoices geo k c.play-after.result)
    None) one_less (subst (λ z. FindsLeast (Before geo c.play-after.result)
    (RepliesToChoices geo c.saturating_sub.result c.play-after.result) (option_map parts_of z)) c.in_default.is
    c.in_ok-found.ensures.found) in
    record {
      none = none_to_more (λ m. m) (LeadsToChoices geo n p) keys c.keys.key-index c.key-item.result c.keys-test.true
          c.key-item.is
          (after_key geo n p c.play-after.result c.key-item.result None c.play-after.ensures key found)
          c.keys.invariant.none;
      asked = asked_then geo content lost c.searches_add_up.ensures n c.args.solver.now c.keys.solver
          c.choice_after_reply.new.solver answered c.keys.invariant.asked
          (asked_wider geo content lost c.searches_add_up.ensures c.saturating_sub.result n c.keys.solver
          c.choice_after_reply.new.solver answered less
          (asked_ok geo content lost c.saturating_sub.result c.keys.solver c.choice_after_reply.new.solver _ 0
          c.in_ok-found.ensures.asked));
    }

pub first_choice-returns-clause-found : goal.first_choice-returns-clause-found
first_choice-returns-clause-found g t c =
    let geo = g.B.Board.geometry in
    let p = c.args.position.now in
    let n = c.args.moves in
    let keys = c.args.keys.now in
    let all = subst (IsListOf (Precedes geo p) (IsWinning geo p n)) (sym (map_same keys)) c.requires.keys in
    none_to_all (λ m. m) (LeadsToChoices geo n p) keys c.keys.key-index (omega (arith, c.keys-test.false))
    (leads_begin geo n p _ all) c.keys.invariant.none

pub choice_after_reply-returns-clause-asked : goal.choice_after_reply-returns-clause-asked
choice_after_reply-returns-clause-asked g t c = asked_ok g.B.Board.geometry g.M.Memo.content g.M.Memo.dropped
    c.args.left _ _ 0 _ c.replies.invariant.asked

pub choice_from-returns-in_err-choices-clause-asked : goal.choice_from-returns-in_err-choices-clause-asked
choice_from-returns-in_err-choices-clause-asked g t c = asked_stop g.B.Board.geometry g.M.Memo.content g.M.Memo.dropped
    c.args.left _ _ c.in_err-choices.field-0.0 _ c.from_residual.ensures.1 c.in_err-choices.ensures.asked

pub choice_from-returns-then-len-ge2-clause-asked : goal.choice_from-returns-then-len-ge2-clause-asked
choice_from-returns-then-len-ge2-clause-asked g t c = asked_ok g.B.Board.geometry g.M.Memo.content g.M.Memo.dropped
    c.args.left _ _ _ _ c.in_ok-choices.ensures.asked

pub first_choice-returns-clause-asked : goal.first_choice-returns-clause-asked
first_choice-returns-clause-asked g t c = asked_ok g.B.Board.geometry g.M.Memo.content g.M.Memo.dropped c.args.moves _ _
    0 _ c.keys.invariant.asked

pub choice_from-returns-then-len-ge2-clause-found : goal.choice_from-returns-then-len-ge2-clause-found
choice_from-returns-then-len-ge2-clause-found g t c = first_here g.B.Board.geometry c.args.left c.args.position.now
    c.new-at.result.items c.in_ok-choices.choices.items c.new-at.ensures c.in_ok-choices.ensures.keys
    (omega (arith, c.if-len-ge2.true, c.len.ensures))

pub choice_from-first_choice-requires : goal.choice_from-first_choice-requires
choice_from-first_choice-requires g t c κs within =
    let keys = subst (Keys g.B.Board.geometry c.args.position.now c.args.left) (sym c.as_slice.ensures.value)
    c.in_ok-choices.ensures.keys in (
      omega (arith, c.decreases),
      (within.0, (within.1.0, (within.1.1, (omega arith, (omega (arith, c.requires), keys))))),
    )

pub choice_after_reply-choice_from-requires : goal.choice_after_reply-choice_from-requires
choice_after_reply-choice_from-requires g t c κs within =
    (omega (arith, c.decreases), (within.0, (within.1.0, (within.1.1, (omega arith, c.requires)))))
