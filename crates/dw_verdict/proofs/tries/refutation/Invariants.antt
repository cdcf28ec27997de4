use Rattle.dw_solve.specs.Questions.{Asked}
use Rattle.dw_solve.specs.inner.QuestionLemmas.{answered}
use Rattle.dw_verdict.proofs.RefutingLemmas.{FoundTo}
use Rattle.dw_verdict.proofs.tries.refutation.Given as goal

abbrev pub invariant-replies : goal.invariant-replies
invariant-replies g l = record {
  found : FoundTo (λ r. r.1) g.B.Board.geometry l.position l.left l.reply-items l.reply-index l.found;
  asked : Asked g.B.Board.geometry g.M.Memo.content g.M.Memo.dropped l.left l.initial.solver l.solver answered;
}
