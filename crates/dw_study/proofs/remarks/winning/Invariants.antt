use Rattle.dw_moves.specs.Order.{Precedes, IsAscending}
use Rattle.dw_verdict.specs.Verdict.{IsWinning}
use Rattle.dw_verdict.specs.inner.GatheredLemmas.{GatheredTo}
use Rattle.dw_solve.specs.Questions.{Asked}
use Rattle.dw_solve.specs.inner.QuestionLemmas.{answered}
use Rattle.dw_study.proofs.remarks.winning.Given as goal

abbrev pub invariant-moves : goal.invariant-moves
invariant-moves g l = record {
  keys : IsAscending (Precedes g.B.Board.geometry l.spot.position) l.moves
      → GatheredTo (λ m. m) (Precedes g.B.Board.geometry l.spot.position) (λ m. m)
      (IsWinning g.B.Board.geometry l.spot.position l.spot.left) l.moves l.mv-index l.keys.items;
  asked : Asked g.B.Board.geometry g.M.Memo.content g.M.Memo.dropped l.spot.left
      l.initial.solver l.solver answered;
}
