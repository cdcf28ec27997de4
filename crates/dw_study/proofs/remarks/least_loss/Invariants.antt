use Rattle.std.proofs.Common.{ℕ, ◌<◌}
use Rattle.dw_solve.specs.Questions.{Asked}
use Rattle.dw_solve.specs.Wins.{Lost}
use Rattle.dw_solve.specs.inner.QuestionLemmas.{answered}
use Rattle.dw_study.proofs.remarks.least_loss.Given as goal

abbrev pub invariant-moves : goal.invariant-moves
invariant-moves g l = record {
  none : (j : ℕ) → j < l.moves → Lost g.B.Board.geometry l.position j → ⊥;
  asked : Asked g.B.Board.geometry g.M.Memo.content g.M.Memo.dropped l.most l.initial.solver l.solver answered;
}
