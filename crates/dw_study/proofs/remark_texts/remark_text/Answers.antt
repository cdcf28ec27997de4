use Rattle.std.proofs.Common.{IfSome, subst}
use Rattle.dw_study.specs.RemarkFields.{AreRemarkFields}
use Rattle.dw_study.specs.Telling.{texts_in}
use Rattle.dw_study.proofs.remark_texts.remark_text.Goals as goal

pub returns-in_ok-text-in-Some-clause-text : goal.returns-in_ok-text-in-Some-clause-text
returns-in_ok-text-in-Some-clause-text g c = λ r is.
    c.in_ok-text-in-Some.ensures c.args.tree.now.paths c.args.tree.now.start r is
    (subst (λ made. IfSome made (λ words. AreRemarkFields g.B.Board.geometry c.args.tree.now.start r (texts_in words)))
    c.in-Some.is (c.in_ok-words.ensures.words r is))
