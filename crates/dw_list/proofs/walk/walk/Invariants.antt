use Rattle.std.proofs.Common.{◌*◌, ◌^◌}
use Rattle.dw_solve.specs.Questions.{Asked}
use Rattle.dw_list.specs.inner.Steps.{cost}
use Rattle.dw_solve.specs.inner.QuestionLemmas.{answered}
use Rattle.dw_list.proofs.StepLemmas.{SameLines}
use Rattle.dw_list.proofs.walk.walk.Given as goal

abbrev pub invariant-steps : goal.invariant-steps
invariant-steps g l = record {
  same : SameLines g.B.Board.geometry l.initial.stack l.stack;
  asked : Asked g.B.Board.geometry g.M.Memo.content g.M.Memo.dropped l.initial.stack.moves l.initial.solver l.solver
      answered;
}

abbrev pub decreases-steps : goal.decreases-steps
decreases-steps g l = cost (2 ^ 64) (2 * l.stack.moves) l.stack.levels
