use Rattle.std.proofs.Common.{◌+◌, map, refl, sym, ap, ◌∙◌, subst, arith}
use Rattle.dw_moves.specs.Moves.{Legal}
use Rattle.dw_moves.specs.Order.{Precedes, IsListOf}
use Rattle.dw_verdict.specs.inner.GatheredLemmas.{item_among, to_none, to_more, to_same}
use Rattle.dw_solve.specs.inner.CountLemmas.{counted_then}
use Rattle.dw_first_moves.specs.Later.{WinsLater}
use Rattle.dw_first_moves.specs.inner.LaterMoves.{FindsLater}
use Rattle.dw_first_moves.proofs.LaterLemmas.{LaterTo, later_whole, one_number}
use Rattle.dw_first_moves.proofs.later.later_wins.Goals.{in-Some+in_ok-push, in_default}
use Rattle.dw_first_moves.proofs.later.later_wins.Goals as goal

pub later_win-requires : goal.later_win-requires
later_win-requires g c =
    let geo = g.B.Board.geometry in
    let p = c.args.position.now in
    let all = subst (λ z. IsListOf (Precedes geo p) (Legal geo p) (map (λ item. item.step) z))
    (sym c.as_slice-item-items.ensures.value) c.in_ok-list.ensures.in_order in
    record {
      legal = subst (Legal geo p) (sym (ap (λ l. l.step) c.item.view_is))
          (item_among (λ item. item.step) (Precedes geo p) (Legal geo p) c.as_slice-item-items.result.now
          c.moves.item-index c.item-item.result all c.moves-test.true c.item-item.is);
    }

pub moves-init : goal.moves-init
moves-init g c =
    let geo = g.B.Board.geometry in
    record {
      later = to_none (λ item. item.step) (Precedes geo c.args.position.now) (λ t. t.0)
          (WinsLater geo c.args.position.now c.args.bounds.moves.value c.args.bounds.most.value)
          c.as_slice-item-items.result.now c.new-later.result.items c.new-later.ensures.items;
      count = record { rises = omega arith; within = c.keeps_its_limit.ensures; same = refl };
      right = c.keeps_its_facts.ensures.right;
      map = c.keeps_its_facts.ensures.map;
    }

pub moves-preserved : goal.moves-preserved
moves-preserved g c =
    let geo = g.B.Board.geometry in
    let p = c.args.position.now in
    let n = c.args.bounds.moves.value in
    let most = c.args.bounds.most.value in
    let items = c.as_slice-item-items.result.now in
    let i = c.moves.item-index in
    let all = subst (λ z. IsListOf (Precedes geo p) (Legal geo p) (map (λ item. item.step) z))
    (sym c.as_slice-item-items.ensures.value) c.in_ok-list.ensures.in_order in
    let is = ap (λ l. l.step) c.item.view_is in
    let here = c.in_ok-least.ensures in
    record {
      later = elim c.match-branch-3.branch [
        | in-Some+in_ok-push w ↦
            let found : WinsLater geo p n most (c.item.inside.step, w.in-Some.least) =
            subst (FindsLater geo p n most c.item.inside.step) w.in-Some.is here.found in
            subst (LaterTo (λ item. item.step) geo p n most items (i + 1))
            (sym (ap (λ v. v.items) w.later-is ∙ w.in_ok-push.ensures))
            (to_more (λ item. item.step) (Precedes geo p) (λ t. t.0) (WinsLater geo p n most) items i
            c.item-item.result c.moves.later.items (c.item.inside.step, w.in-Some.least) all.ascending
            c.moves-test.true c.item-item.is is found
            (λ z e h. one_number geo p n most c.item.inside.step z w.in-Some.least found (e ∙ sym is) h)
            c.moves.invariant.later)
        | in_default w ↦
            let none = subst (FindsLater geo p n most c.item.inside.step) w.in_default.is here.found in
            subst (LaterTo (λ item. item.step) geo p n most items (i + 1))
            (sym (ap (λ v. v.items) w.later-is))
            (to_same (λ item. item.step) (Precedes geo p) (λ t. t.0) (WinsLater geo p n most) items i
            c.item-item.result c.moves.later.items c.moves-test.true c.item-item.is
            (λ z e h. none z.1 (subst (λ m. WinsLater geo p n most (m, z.1)) (e ∙ sym is) h)) c.moves.invariant.later)
      ];
      count = counted_then _ _ _ _ _ _ c.moves.invariant.count here.count;
      right = here.right;
      map = here.map;
    }

pub returns-clause-later : goal.returns-clause-later
returns-clause-later g c =
    let geo = g.B.Board.geometry in
    let p = c.args.position.now in
    let all = subst (λ z. IsListOf (Precedes geo p) (Legal geo p) (map (λ item. item.step) z))
    (sym c.as_slice-item-items.ensures.value) c.in_ok-list.ensures.in_order in
    later_whole (λ item. item.step) geo p c.args.bounds.moves.value c.args.bounds.most.value
    c.as_slice-item-items.result.now c.moves.item-index c.moves.later.items (omega (arith, c.moves-test.false)) all
    c.moves.invariant.later
