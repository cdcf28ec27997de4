use Rattle.std.proofs.Common.{◌-◌}
use Rattle.dw_moves.specs.Moves.{play}
use Rattle.dw_moves.specs.Order.{Precedes}
use Rattle.dw_solve.specs.Wins.{Lost}
use Rattle.dw_solve.specs.Questions.{Asked}
use Rattle.dw_solve.specs.inner.QuestionLemmas.{answered}
use Rattle.dw_verdict.specs.inner.GatheredLemmas.{GatheredTo}
use Rattle.dw_verdict.proofs.keys.keys.Given as goal

abbrev pub invariant-moves : goal.invariant-moves
invariant-moves g l = record {
  keys : GatheredTo (λ item. item.step) (Precedes g.B.Board.geometry l.position) (λ m. m)
      (λ m. Lost g.B.Board.geometry (play g.B.Board.geometry l.position m) (l.moves - 1)) l.item-items l.item-index
      l.keys.items;
  asked : Asked g.B.Board.geometry g.M.Memo.content g.M.Memo.dropped l.moves l.initial.solver l.solver answered;
}
