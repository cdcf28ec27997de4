use Rattle.std.proofs.Common.{ap, subst, IfSome, IsSome}
use Rattle.dw_rows.specs.CheckRow.{IsRemarkObject, word_members}
use Rattle.dw_rows.specs.inner.Remarking.{members_told}
use Rattle.dw_study.specs.RemarkFields.{AreRemarkFields}
use Rattle.dw_study.specs.Telling.{remark_in, texts_in}
use Rattle.dw_rows.specs.inner.SayingLemmas.{says_at}
use Rattle.dw_rows.proofs.RowLemmas.{told_next}
use Rattle.dw_rows.proofs.checked.remark_rows.Goals as goal

pub returns-in-None-clause-some : goal.returns-in-None-clause-some
returns-in-None-clause-some g c said same can =
    let at = says_at (remark_in c.args.tree.now.paths) c.args.remarks.now said c.remarks.remark-index
    c.remark-item.result same c.remarks-test.true c.remark-item.is in
    subst (λ made. IsSome made) c.in-None.is (c.in_ok-words.ensures.some at.this at.says (can at.this at.among))

pub remarks-preserved : goal.remarks-preserved
remarks-preserved g c said same =
    let geo = g.B.Board.geometry in
    let p = c.args.tree.now.start in
    let words = texts_in c.in-Some.words in
    let at = says_at (remark_in c.args.tree.now.paths) c.args.remarks.now said c.remarks.remark-index
    c.remark-item.result same c.remarks-test.true c.remark-item.is in
    told_next (IsRemarkObject geo p) members_told said c.remarks.told.items c.push.new.self.items
    c.remarks.remark-index at.this _ at.next (c.remarks.invariant said same) (
      words,
      subst (λ made. IfSome made (λ words. AreRemarkFields geo p at.this (texts_in words))) c.in-Some.is
          (c.in_ok-words.ensures.words at.this at.says),
      ap (λ z. word_members z words) (c.kind_of-kind.ensures c.args.tree.now.paths at.this at.says),
    ) c.in_ok-push-in-Some.ensures.items
