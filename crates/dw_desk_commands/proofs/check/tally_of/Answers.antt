use Rattle.std.proofs.Common.{◌∙◌, ◌+◌, ap, sym, take}
use Rattle.dw_study.specs.Telling.{remark_in}
use Rattle.dw_desk_commands.specs.Check.{counted}
use Rattle.dw_desk_commands.specs.inner.Tallies.{one_more}
use Rattle.dw_rows.specs.inner.SayingLemmas.{all_said, says_at}
use Rattle.dw_desk_commands.proofs.CheckLemmas.{counted_next}
use Rattle.dw_desk_commands.proofs.check.tally_of.Goals as goal

pub remarks-preserved : goal.remarks-preserved
remarks-preserved g c =
    let i = c.remarks.remark-index in
    record {
      counts = λ tree said e.
          let at = says_at (remark_in tree) c.args.remarks.now said i c.remark-item.result e c.remarks-test.true
          c.remark-item.is in
          c.with-tally.ensures.counts tree at.this at.says
          ∙ (ap (one_more at.this) (c.remarks.invariant.counts tree said e)
          ∙ (sym (counted_next (take i said) at.this) ∙ ap counted (sym at.next)));
      total = c.with-tally.ensures.total ∙ ap (λ z. z + 1) c.remarks.invariant.total;
    }

pub returns : goal.returns
returns g c = λ tree said e. c.remarks.invariant.counts tree said e
    ∙ ap counted (all_said (remark_in tree) c.args.remarks.now said c.remarks.remark-index e c.remarks-test.false)
