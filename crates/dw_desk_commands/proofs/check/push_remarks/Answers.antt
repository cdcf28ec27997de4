use Rattle.std.proofs.Common.{◌++◌, [], sym, subst}
use Rattle.dw_notation.specs.inner.StreamLemmas.{Appends-nil, Appends-trans}
use Rattle.dw_study.specs.RemarkText.{IsRemarkText}
use Rattle.dw_study.specs.Telling.{remark_in}
use Rattle.dw_desk_commands.specs.ProblemText.{AreTexts, nothing, one_more}
use Rattle.dw_rows.specs.inner.SayingLemmas.{all_said, says_at}
use Rattle.dw_desk_commands.proofs.check.push_remarks.Goals as goal

pub remarks-init : goal.remarks-init
remarks-init g c = record {
  texts = λ said e can. ([], nothing, Appends-nil c.args.text.now.items);
}

pub remarks-preserved : goal.remarks-preserved
remarks-preserved g c =
    let One = IsRemarkText g.B.Board.geometry c.args.tree.now.start in
    record {
      texts = λ said e can.
          let at = says_at (remark_in c.args.tree.now.paths) c.args.remarks.now said c.remarks.remark-index
          c.remark-item.result e c.remarks-test.true c.remark-item.is in
          let before = c.remarks.invariant.texts said e can in
          let new = c.in_ok-push_remark.ensures at.this at.says (can at.this at.among) in (
            before.0 ++ new.0,
            subst (λ z. AreTexts One z (before.0 ++ new.0)) (sym at.next) (one_more at.this new.0 before.1 new.1),
            Appends-trans c.args.text.now.items c.remarks.text.items c.push_remark.new.text.items before.0 new.0
                before.2 new.2,
          );
    }

pub returns : goal.returns
returns g c = λ said e can.
    let told = c.remarks.invariant.texts said e can in (
      told.0,
      subst (λ z. AreTexts (IsRemarkText g.B.Board.geometry c.args.tree.now.start) z told.0)
          (all_said (remark_in c.args.tree.now.paths) c.args.remarks.now said c.remarks.remark-index e
          c.remarks-test.false)
          told.1,
      told.2,
    )
