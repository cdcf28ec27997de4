use Rattle.std.proofs.Common.{◌+◌, ◌*◌, cond, List}
use Rattle.dw_moves.specs.Moves.{Move}
use Rattle.dw_solve.specs.Questions.{Asked}
use Rattle.dw_study.specs.inner.Checking.{IsAt}
use Rattle.dw_study.proofs.SeenLemmas.{SaidTo}
use Rattle.dw_solve.specs.inner.QuestionLemmas.{answered}
use Rattle.dw_study.proofs.check.+remarks_from.Given as goal

abbrev pub decreases-remarks_from : goal.decreases-remarks_from
decreases-remarks_from g l = 2 * l.spot.now.left + cond l.spot.now.attacks 0 1

abbrev pub invariant-followed : goal.invariant-followed
invariant-followed g l = record {
  said : (b : List Move) → IsAt g.B.Board.geometry l.tree l.spot b
      → SaidTo g.B.Board.geometry l.tree.paths l.spot.attacks l.spot.left l.spot.position b l.child-items l.child-index
      l.remarks.items;
  asked : Asked g.B.Board.geometry g.M.Memo.content g.M.Memo.dropped l.spot.left l.fn.solver
      l.solver answered;
}
