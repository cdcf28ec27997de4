use Rattle.dw_solve.specs.Questions.{Asked}
use Rattle.dw_study.proofs.SeenLemmas.{WonTo}
use Rattle.dw_solve.specs.inner.QuestionLemmas.{answered}
use Rattle.dw_study.proofs.remarks.refutation.Given as goal

abbrev pub invariant-replies : goal.invariant-replies
invariant-replies g l = record {
  won : WonTo (λ item. item.step) g.B.Board.geometry l.position l.left l.reply-items l.reply-index;
  asked : Asked g.B.Board.geometry g.M.Memo.content g.M.Memo.dropped l.left l.initial.solver
      l.solver answered;
}
