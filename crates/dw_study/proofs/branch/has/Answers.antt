use Rattle.std.proofs.Common.{refl, sym, ◌∙◌, arith}
use Rattle.std.proofs.lemmas.Bool.{true≢false}
use Rattle.dw_moves.specs.inner.MoveLemmas.{same_moves-is}
use Rattle.dw_study.proofs.ChildLemmas.{not_yet, one_of_them, none_of_them}
use Rattle.dw_study.proofs.branch.has.Goals as goal

pub children-init : goal.children-init
children-init g c = λ none. absurd none

pub returns-then-eq : goal.returns-then-eq
returns-then-eq g c =
    let is = same_moves-is c.child-item.result.mv c.args.mv.now in (
      λ yes. one_of_them c.args.mv.now c.args.children.now c.children.child-index c.child-item.result
          c.children-test.true c.child-item.is (is.0 (sym c.eq.ensures ∙ c.if-eq.true)),
      λ m. refl,
    )

pub children-preserved : goal.children-preserved
children-preserved g c =
    let is = same_moves-is c.child-item.result.mv c.args.mv.now in
    not_yet c.args.mv.now c.args.children.now c.children.child-index c.child-item.result c.children-test.true
    c.child-item.is (λ e. true≢false (sym (is.1 e) ∙ (sym c.eq.ensures ∙ c.if-eq.false))) c.children.invariant

pub returns : goal.returns
returns g c = (
  λ yes. absurd (true≢false (sym yes)),
  λ m. absurd (none_of_them c.args.mv.now c.args.children.now c.children.child-index
      (omega (arith, c.children-test.false)) c.children.invariant m),
)
