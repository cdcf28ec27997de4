use Rattle.std.proofs.Common.{arith, sym, ap, ◌∙◌, ◌≤◌, length, drop}
use Rattle.std.proofs.lemmas.List.{length-drop}
use Rattle.dw_games.specs.inner.Classes.{width_of}
use Rattle.dw_games.proofs.SignLemmas.{kind_fits, row_done, row_next}
use Rattle.dw_games.proofs.signs.row_of.Goals as goal

pub returns-then-more-eq0-clause-row : goal.returns-then-more-eq0-clause-row
returns-then-more-eq0-clause-row c =
    row_done (width_of c.args.signs) c.args.text.now c.signs.count c.signs.invariant.more
    (ap (width_of c.args.signs) (sym c.split_at.ensures.back) ∙ (sym c.width-more.ensures ∙ c.if-more-eq0.true))

pub signs-preserved : goal.signs-preserved
signs-preserved c =
    let is = ap (width_of c.args.signs) (sym c.split_at.ensures.back) ∙ sym c.width-more.ensures in
    let fits = kind_fits c.args.signs (drop c.signs.count c.args.text.now) in
    let within : c.width-more.result ≤ length (drop c.signs.count c.args.text.now) = omega (arith, is, fits) in
    record {
      within = omega (arith, within, c.signs.invariant.within, length-drop c.signs.count c.args.text.now);
      more =
          row_next (width_of c.args.signs) c.args.text.now c.signs.count c.width-more.result c.signs.invariant.more
          (omega (arith, c.if-more-eq0.false)) within is;
    }
