use Rattle.std.proofs.Common.{ap, sym, subst, arith, length}
use Rattle.dw_solution.specs.inner.Drafts.{IsPassed}
use Rattle.dw_solution.proofs.DraftLemmas.{none_is_short, movetext_cut, passed_some}
use Rattle.dw_solution.proofs.movetext.Draft.cut_text.Goals as goal

pub cuts-init : goal.cuts-init
cuts-init g c =
    let geo = g.B.Board.geometry in
    let draft = c.args.self.now in
    let low = c.keeps_its_range.ensures in
    record {
      is = c.in_ok-text.ensures;
      short = none_is_short geo draft.heading draft.first.now c.in_ok-text.text.items low c.in_ok-text.ensures;
      low = omega (
        arith,
        c.len-too_many.ensures,
        passed_some geo draft.heading draft.first.now c.requires.0 low c.requires.1 c.requires.2,
      );
      within = omega (arith, c.len-too_many.ensures);
      passed = subst (IsPassed geo draft) (sym c.len-too_many.ensures) c.requires;
    }

pub cuts-preserved : goal.cuts-preserved
cuts-preserved g c = record {
  is = c.cuts.invariant.is;
  short = c.cuts.invariant.short;
  low = omega (arith, c.cuts-test.true);
  within = omega (arith, c.cuts-test.true, c.cuts.invariant.within);
  passed = (
    c.in_ok-longer.longer.items,
    c.in_ok-longer.ensures,
    omega (arith, c.if-as_slice-le-MAX_WRITTEN.false, ap length c.as_slice.ensures.value),
  );
}

pub returns : goal.returns
returns g c =
    let draft = c.args.self.now in
    let i = c.cuts.invariant in
    movetext_cut g.B.Board.geometry draft.heading draft.first.now c.cuts.many c.cuts.too_many c.cuts.text.items
    i.passed.0 i.low i.within c.cuts-test.false i.is i.short i.passed.1 i.passed.2
