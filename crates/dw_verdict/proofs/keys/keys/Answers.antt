use Rattle.std.proofs.Common.{◌+◌, ◌-◌, ◌≤◌, map, sym, ap, ◌∙◌, subst, arith}
use Rattle.dw_moves.specs.Moves.{Legal, play}
use Rattle.dw_moves.specs.Order.{Precedes, IsListOf}
use Rattle.dw_solve.specs.Wins.{Lost}
use Rattle.dw_solve.specs.inner.QuestionLemmas.{answered, asked_none, asked_then, asked_wider, asked_ok, asked_stop}
use Rattle.dw_solve.specs.inner.QuestionLemmas.{asked_memory}
use Rattle.dw_verdict.specs.inner.GatheredLemmas.{GatheredTo, to_none, to_more, to_same, item_among}
use Rattle.dw_verdict.proofs.KeyListLemmas.{keys_whole, not_lost, keys_within_none}
use Rattle.dw_verdict.proofs.keys.keys.Goals.{then-branch+in_ok-push, else-branch}
use Rattle.dw_verdict.proofs.keys.keys.Goals as goal

pub play-after-requires : goal.play-after-requires
play-after-requires g c =
    let geo = g.B.Board.geometry in
    let p = c.args.position.now in
    let all = subst (λ z. IsListOf (Precedes geo p) (Legal geo p) (map (λ item. item.step) z))
    (sym c.as_slice-item-items.ensures.value) c.in_ok-list.ensures.in_order in
    subst (Legal geo p) (sym (ap (λ l. l.step) c.item.view_is))
    (item_among (λ item. item.step) (Precedes geo p) (Legal geo p) c.as_slice-item-items.result.now c.moves.item-index
    c.item-item.result all c.moves-test.true c.item-item.is)

pub returns-in_err-loses-clause-asked : goal.returns-in_err-loses-clause-asked
returns-in_err-loses-clause-asked g c =
    let geo = g.B.Board.geometry in
    let content = g.M.Memo.content in
    let lost = g.M.Memo.dropped in
    let law = c.searches_add_up.ensures in
    let less : c.args.moves - 1 ≤ c.args.moves = omega arith in
    asked_then geo content lost law c.args.moves c.args.solver.now c.moves.solver c.loses.new.self
    c.from_residual-in_err-loses.result c.moves.invariant.asked
    (asked_wider geo content lost law (c.args.moves - 1) c.args.moves c.moves.solver c.loses.new.self
    c.from_residual-in_err-loses.result less
    (asked_stop geo content lost (c.args.moves - 1) c.moves.solver c.loses.new.self c.in_err-loses.field-0.0
    c.from_residual-in_err-loses.result
    c.from_residual-in_err-loses.ensures.1
    c.in_err-loses.ensures.asked))

pub returns-in_err-push-clause-asked : goal.returns-in_err-push-clause-asked
returns-in_err-push-clause-asked g c =
    let geo = g.B.Board.geometry in
    let content = g.M.Memo.content in
    let lost = g.M.Memo.dropped in
    let law = c.searches_add_up.ensures in
    let less : c.args.moves - 1 ≤ c.args.moves = omega arith in
    asked_memory geo content lost c.args.moves c.args.solver.now c.loses.new.self c.from_residual-in_err-push.result
    c.from_residual-in_err-push.ensures.1
    (asked_then geo content lost law c.args.moves c.args.solver.now c.moves.solver c.loses.new.self answered
    c.moves.invariant.asked
    (asked_wider geo content lost law (c.args.moves - 1) c.args.moves c.moves.solver c.loses.new.self answered less
    (asked_ok geo content lost (c.args.moves - 1) c.moves.solver c.loses.new.self _ 0
    c.in_ok-loses.ensures.asked)))

pub moves-preserved : goal.moves-preserved
moves-preserved g c =
    let geo = g.B.Board.geometry in
    let content = g.M.Memo.content in
    let lost = g.M.Memo.dropped in
    let law = c.searches_add_up.ensures in
    let p = c.args.position.now in
    let n = c.args.moves in
    let less : n - 1 ≤ n = omega arith in
    let all = subst (λ z. IsListOf (Precedes geo p) (Legal geo p) (map (λ item. item.step) z))
    (sym c.as_slice-item-items.ensures.value) c.in_ok-list.ensures.in_order in
    let is = ap (λ l. l.step) c.item.view_is in
    record {
      keys = elim c.if-branch.branch [
        | then-branch+in_ok-push w ↦
            subst (λ z. GatheredTo (λ item. item.step) (Precedes geo p) (λ m. m) (λ m. Lost geo (play geo p m) (n - 1))
            c.as_slice-item-items.result.now (c.moves.item-index + 1) z)
            (sym (ap (λ v. v.items) w.keys-is ∙ w.in_ok-push.ensures))
            (to_more (λ item. item.step) (Precedes geo p) (λ m. m) (λ m. Lost geo (play geo p m) (n - 1))
            c.as_slice-item-items.result.now c.moves.item-index c.item-item.result c.moves.keys.items
            c.item.inside.step
            all.ascending c.moves-test.true c.item-item.is is (subst (λ z. Lost geo z (n - 1)) c.play-after.ensures
            (c.in_ok-loses.ensures.answer.0 w.if-branch.true)) (λ z e h. e ∙ sym is) c.moves.invariant.keys)
        | else-branch w ↦
            subst (λ z. GatheredTo (λ item. item.step) (Precedes geo p) (λ m. m) (λ m. Lost geo (play geo p m) (n - 1))
            c.as_slice-item-items.result.now (c.moves.item-index + 1) z)
            (sym (ap (λ v. v.items) w.keys-is))
            (to_same (λ item. item.step) (Precedes geo p) (λ m. m) (λ m. Lost geo (play geo p m) (n - 1))
            c.as_slice-item-items.result.now c.moves.item-index c.item-item.result c.moves.keys.items
            c.moves-test.true c.item-item.is (λ z e h. not_lost geo p c.play-after.result (n - 1)
            c.item.inside.step z c.in_ok-loses.field-0 c.play-after.ensures c.in_ok-loses.ensures.answer
            w.if-branch.false (e ∙ sym is) h) c.moves.invariant.keys)
      ];
      asked = asked_then geo content lost law n c.args.solver.now c.moves.solver c.loses.new.self answered
          c.moves.invariant.asked
          (asked_wider geo content lost law (n - 1) n c.moves.solver c.loses.new.self answered less
          (asked_ok geo content lost (n - 1) c.moves.solver c.loses.new.self _ 0
          c.in_ok-loses.ensures.asked));
    }

pub returns-clause-keys : goal.returns-clause-keys
returns-clause-keys g c =
    let geo = g.B.Board.geometry in
    let p = c.args.position.now in
    let all = subst (λ z. IsListOf (Precedes geo p) (Legal geo p) (map (λ item. item.step) z))
    (sym c.as_slice-item-items.ensures.value) c.in_ok-list.ensures.in_order in
    let some : 1 ≤ c.args.moves = omega (arith, c.if-moves-eq0.false) in
    keys_whole (λ item. item.step) geo p c.args.moves c.as_slice-item-items.result.now c.moves.item-index
    c.moves.keys.items some (omega (arith, c.moves-test.false)) all c.moves.invariant.keys

pub returns-then-moves-eq0-clause-asked : goal.returns-then-moves-eq0-clause-asked
returns-then-moves-eq0-clause-asked g c =
    let geo = g.B.Board.geometry in
    let content = g.M.Memo.content in
    let lost = g.M.Memo.dropped in
    let none = asked_none geo content lost c.searches_add_up.ensures c.args.moves c.args.solver.now
    c.keeps_its_limit.ensures in
    asked_ok geo content lost c.args.moves _ _ 0 _ none

pub returns-in_err-list-clause-asked : goal.returns-in_err-list-clause-asked
returns-in_err-list-clause-asked g c =
    let geo = g.B.Board.geometry in
    let content = g.M.Memo.content in
    let lost = g.M.Memo.dropped in
    let none = asked_none geo content lost c.searches_add_up.ensures c.args.moves c.args.solver.now
    c.keeps_its_limit.ensures in
    asked_memory geo content lost c.args.moves _ _ _ c.from_residual.ensures.1 none

pub returns-clause-asked : goal.returns-clause-asked
returns-clause-asked g c = asked_ok g.B.Board.geometry g.M.Memo.content g.M.Memo.dropped c.args.moves _ _ 0 _
    c.moves.invariant.asked

pub returns-then-moves-eq0-clause-keys : goal.returns-then-moves-eq0-clause-keys
returns-then-moves-eq0-clause-keys g c =
    keys_within_none g.B.Board.geometry c.args.position.now c.args.moves c.new-keys.result.items
    (omega (arith, c.if-moves-eq0.true)) c.new-keys.ensures.items

pub moves-init : goal.moves-init
moves-init g c =
    let geo = g.B.Board.geometry in
    let p = c.args.position.now in
    let n = c.args.moves in
    record {
      keys = to_none (λ item. item.step) (Precedes geo p) (λ m. m) (λ m. Lost geo (play geo p m) (n - 1))
          c.as_slice-item-items.result.now c.new-keys.result.items c.new-keys.ensures.items;
      asked = asked_none geo g.M.Memo.content g.M.Memo.dropped c.searches_add_up.ensures n c.args.solver.now
          c.keeps_its_limit.ensures;
    }
