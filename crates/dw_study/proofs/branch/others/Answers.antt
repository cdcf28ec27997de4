use Rattle.std.proofs.Common.{◌+◌, map, sym, ap, ◌∙◌, subst, arith}
use Rattle.dw_board.specs.Lists.{Member}
use Rattle.dw_moves.specs.Moves.{Legal}
use Rattle.dw_moves.specs.Order.{Precedes, IsListOf}
use Rattle.dw_verdict.specs.inner.GatheredLemmas.{GatheredTo, to_none, to_more, to_same, to_all}
use Rattle.dw_study.proofs.ChildLemmas.{is_so, is_not_so}
use Rattle.dw_study.proofs.branch.others.Goals.{then-not-has+in_ok-push, else-not-has}
use Rattle.dw_study.proofs.branch.others.Goals as goal

pub moves-init : goal.moves-init
moves-init g c = to_none (λ item. item.step) (Precedes g.B.Board.geometry c.args.position.now) (λ m. m)
    (λ m. Member m (map (λ d. d.mv) c.args.children.now) → ⊥) c.as_slice-item-items.result.now c.new-others.result.items
    c.new-others.ensures.items

pub moves-preserved : goal.moves-preserved
moves-preserved g c =
    let geo = g.B.Board.geometry in
    let p = c.args.position.now in
    let taken = map (λ d. d.mv) c.args.children.now in
    let items = c.as_slice-item-items.result.now in
    let i = c.moves.item-index in
    let all = subst (λ z. IsListOf (Precedes geo p) (Legal geo p) (map (λ item. item.step) z))
    (sym c.as_slice-item-items.ensures.value) c.in_ok-list.ensures.in_order in
    let is = ap (λ l. l.step) c.item.view_is in
    elim c.if-not-has.branch [
      | then-not-has+in_ok-push w ↦
          subst (GatheredTo (λ item. item.step) (Precedes geo p) (λ m. m) (λ m. Member m taken → ⊥) items (i + 1))
          (sym (ap (λ v. v.items) w.others-is ∙ w.in_ok-push.ensures))
          (to_more (λ item. item.step) (Precedes geo p) (λ m. m) (λ m. Member m taken → ⊥) items i c.item-item.result
          c.moves.others.items c.item.inside.step all.ascending c.moves-test.true c.item-item.is is
          (λ h. is_not_so c.has.result w.if-not-has.true (c.has.ensures.1 h)) (λ z e h. e ∙ sym is) c.moves.invariant)
      | else-not-has w ↦
          subst (GatheredTo (λ item. item.step) (Precedes geo p) (λ m. m) (λ m. Member m taken → ⊥) items (i + 1))
          (sym (ap (λ v. v.items) w.others-is))
          (to_same (λ item. item.step) (Precedes geo p) (λ m. m) (λ m. Member m taken → ⊥) items i c.item-item.result
          c.moves.others.items c.moves-test.true c.item-item.is
          (λ z e h. h (subst (λ m. Member m taken) (is ∙ sym e) (c.has.ensures.0 (is_so c.has.result
          w.if-not-has.false)))) c.moves.invariant)
    ]

pub returns : goal.returns
returns g c =
    let geo = g.B.Board.geometry in
    let p = c.args.position.now in
    let all = subst (λ z. IsListOf (Precedes geo p) (Legal geo p) (map (λ item. item.step) z))
    (sym c.as_slice-item-items.ensures.value) c.in_ok-list.ensures.in_order in
    to_all (λ item. item.step) (Precedes geo p) (λ m. m) (λ m. Member m (map (λ d. d.mv) c.args.children.now) → ⊥)
    (Legal geo p) c.as_slice-item-items.result.now c.moves.item-index c.moves.others.items
    (omega (arith, c.moves-test.false)) all c.moves.invariant
