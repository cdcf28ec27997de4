use Rattle.std.proofs.Common.{List}
use Rattle.dw_moves.specs.Moves.{Move}
use Rattle.dw_study.specs.inner.Checking.{AreChildren}
use Rattle.dw_solve.specs.Questions.{Asked}
use Rattle.dw_study.proofs.SeenLemmas.{SortedTo}
use Rattle.dw_solve.specs.inner.QuestionLemmas.{answered}
use Rattle.dw_study.proofs.remarks.sorted.Given as goal

abbrev pub invariant-children : goal.invariant-children
invariant-children g l = record {
  sorted : (tree : List (List Move)) (b : List Move)
      → AreChildren g.B.Board.geometry l.spot.position tree b l.children
      → SortedTo g.B.Board.geometry l.spot.position l.spot.left tree b l.spot.node l.children l.child-index
      l.remarks.items l.followed.items;
  asked : Asked g.B.Board.geometry g.M.Memo.content g.M.Memo.dropped l.spot.left
      l.initial.solver l.solver answered;
}
