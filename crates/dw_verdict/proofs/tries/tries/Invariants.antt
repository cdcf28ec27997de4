use Rattle.dw_solve.specs.Questions.{Asked}
use Rattle.dw_solve.specs.inner.QuestionLemmas.{answered}
use Rattle.dw_verdict.proofs.TryListLemmas.{TriesTo}
use Rattle.dw_verdict.proofs.tries.tries.Given as goal

abbrev pub invariant-moves : goal.invariant-moves
invariant-moves g l = record {
  tries : TriesTo (λ item. item.step) g.B.Board.geometry l.position l.moves l.item-items l.item-index l.tries.items;
  asked : Asked g.B.Board.geometry g.M.Memo.content g.M.Memo.dropped l.moves l.initial.solver l.solver answered;
}
