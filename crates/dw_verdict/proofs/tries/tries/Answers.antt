use Rattle.std.proofs.Common.{◌+◌, ◌-◌, ◌≤◌, map, sym, ap, ◌∙◌, subst, arith}
use Rattle.dw_moves.specs.Moves.{Move, Legal, play}
use Rattle.dw_moves.specs.Order.{Precedes, IsListOf}
use Rattle.dw_solve.specs.inner.QuestionLemmas.{answered, asked_none, asked_then, asked_wider, asked_ok, asked_stop}
use Rattle.dw_solve.specs.inner.QuestionLemmas.{asked_memory}
use Rattle.dw_verdict.specs.inner.GatheredLemmas.{item_among, to_none, to_more, to_same}
use Rattle.dw_verdict.specs.Verdict.{IsRefutation, FindsRefutation}
use Rattle.dw_verdict.proofs.TryListLemmas.{TriesTo, tries_whole}
use Rattle.dw_verdict.proofs.tries.tries.Goals.{in-Some+in_ok-push, in_default}
use Rattle.dw_verdict.proofs.tries.tries.Goals as goal

pub play-after-requires : goal.play-after-requires
play-after-requires g c =
    let geo = g.B.Board.geometry in
    let p = c.args.position.now in
    let all = subst (λ z. IsListOf (Precedes geo p) (Legal geo p) (map (λ item. item.step) z))
    (sym c.as_slice-item-items.ensures.value) c.in_ok-list.ensures.in_order in
    subst (Legal geo p) (sym (ap (λ l. l.step) c.item.view_is))
    (item_among (λ item. item.step) (Precedes geo p) (Legal geo p) c.as_slice-item-items.result.now c.moves.item-index
    c.item-item.result all c.moves-test.true c.item-item.is)

pub returns-in_err-reply-clause-asked : goal.returns-in_err-reply-clause-asked
returns-in_err-reply-clause-asked g c =
    let geo = g.B.Board.geometry in
    let content = g.M.Memo.content in
    let lost = g.M.Memo.dropped in
    let law = c.searches_add_up.ensures in
    let less : c.args.moves - 1 ≤ c.args.moves = omega arith in
    asked_then geo content lost law c.args.moves _ _ _ _ c.moves.invariant.asked
    (asked_wider geo content lost law (c.args.moves - 1) c.args.moves _ _ _ less
    (asked_stop geo content lost (c.args.moves - 1) _ _ c.in_err-reply.field-0.0 _
    c.from_residual-in_err-reply.ensures.1 c.in_err-reply.ensures.asked))

pub returns-in_err-push-clause-asked : goal.returns-in_err-push-clause-asked
returns-in_err-push-clause-asked g c =
    let geo = g.B.Board.geometry in
    let content = g.M.Memo.content in
    let lost = g.M.Memo.dropped in
    let law = c.searches_add_up.ensures in
    let less : c.args.moves - 1 ≤ c.args.moves = omega arith in
    asked_memory geo content lost c.args.moves _ _ _ c.from_residual-in_err-push.ensures.1
    (asked_then geo content lost law c.args.moves _ _ _ answered c.moves.invariant.asked
    (asked_wider geo content lost law (c.args.moves - 1) c.args.moves _ _ answered less
    (asked_ok geo content lost (c.args.moves - 1) _ _ _ 0 c.in_ok-reply.ensures.asked)))

pub moves-preserved : goal.moves-preserved
moves-preserved g c =
    let geo = g.B.Board.geometry in
    let content = g.M.Memo.content in
    let lost = g.M.Memo.dropped in
    let law = c.searches_add_up.ensures in
    let p = c.args.position.now in
    let n = c.args.moves in
    let less : n - 1 ≤ n = omega arith in
    let items = c.as_slice-item-items.result.now in
    let all = subst (λ z. IsListOf (Precedes geo p) (Legal geo p) (map (λ item. item.step) z))
    (sym c.as_slice-item-items.ensures.value) c.in_ok-list.ensures.in_order in
    let is = ap (λ l. l.step) c.item.view_is in
    record {
      tries = elim c.match-branch-3.branch [
        | in-Some+in_ok-push w ↦
            let found = subst (λ z. IsRefutation geo z (n - 1) w.in-Some.reply) c.play-after.ensures
            (subst (FindsRefutation geo c.play-after.result (n - 1)) w.in-Some.is c.in_ok-reply.ensures.found) in
            subst (TriesTo (λ item. item.step) geo p n items (c.moves.item-index + 1))
            (sym (ap (λ v. v.items) w.tries-is ∙ w.in_ok-push.ensures))
            (to_more (λ item. item.step) (Precedes geo p) (λ t. t.0) (λ t. IsRefutation geo (play geo p t.0) (n - 1)
            t.1) items c.moves.item-index c.item-item.result c.moves.tries.items (
              c.item.inside.step,
              w.in-Some.reply,
            )
            all.ascending c.moves-test.true c.item-item.is is found
            (λ z e h. let same = e ∙ sym is in let reply =
            found.only z.1 (subst (λ m. IsRefutation geo (play geo p m) (n - 1) z.1) same h).refutes in
            (λ i. (same i, reply i))) c.moves.invariant.tries)
        | in_default w ↦
            subst (TriesTo (λ item. item.step) geo p n items (c.moves.item-index + 1))
            (sym (ap (λ v. v.items) w.tries-is))
            (to_same (λ item. item.step) (Precedes geo p) (λ t. t.0) (λ t. IsRefutation geo (play geo p t.0) (n - 1)
            t.1) items c.moves.item-index c.item-item.result c.moves.tries.items
            c.moves-test.true c.item-item.is (λ z e h. subst (FindsRefutation geo c.play-after.result (n - 1))
            w.in_default.is c.in_ok-reply.ensures.found z.1 (subst (λ q. IsRefutation geo q (n - 1) z.1)
            (ap (play geo p) (e ∙ sym is) ∙ sym c.play-after.ensures) h)) c.moves.invariant.tries)
      ];
      asked = asked_then geo content lost law n _ _ _ answered c.moves.invariant.asked
          (asked_wider geo content lost law (n - 1) n _ _ answered less
          (asked_ok geo content lost (n - 1) _ _ _ 0 c.in_ok-reply.ensures.asked));
    }

pub returns-clause-tries : goal.returns-clause-tries
returns-clause-tries g c =
    let geo = g.B.Board.geometry in
    let p = c.args.position.now in
    let all = subst (λ z. IsListOf (Precedes geo p) (Legal geo p) (map (λ item. item.step) z))
    (sym c.as_slice-item-items.ensures.value) c.in_ok-list.ensures.in_order in
    tries_whole (λ item. item.step) geo p c.args.moves c.as_slice-item-items.result.now c.moves.item-index
    c.moves.tries.items (omega (arith, c.moves-test.false)) all c.moves.invariant.tries

pub returns-in_err-list-clause-asked : goal.returns-in_err-list-clause-asked
returns-in_err-list-clause-asked g c =
    let geo = g.B.Board.geometry in
    let content = g.M.Memo.content in
    let lost = g.M.Memo.dropped in
    let none = asked_none geo content lost c.searches_add_up.ensures c.args.moves c.args.solver.now
    c.keeps_its_limit.ensures in
    asked_memory geo content lost c.args.moves _ _ _ c.from_residual.ensures.1 none

pub returns-clause-asked : goal.returns-clause-asked
returns-clause-asked g c = asked_ok g.B.Board.geometry g.M.Memo.content g.M.Memo.dropped c.args.moves _ _ 0 _
    c.moves.invariant.asked

pub moves-init : goal.moves-init
moves-init g c =
    let geo = g.B.Board.geometry in
    let p = c.args.position.now in
    let n = c.args.moves in
    record {
      tries = to_none (λ item. item.step) (Precedes geo p) (λ (t : Move × Move). t.0)
          (λ (t : Move × Move). IsRefutation geo (play geo p t.0) (n - 1) t.1) c.as_slice-item-items.result.now
          c.new-tries.result.items c.new-tries.ensures.items;
      asked = asked_none geo g.M.Memo.content g.M.Memo.dropped c.searches_add_up.ensures n c.args.solver.now
          c.keeps_its_limit.ensures;
    }
