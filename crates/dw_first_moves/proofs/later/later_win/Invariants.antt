use Rattle.std.proofs.Common.{ℕ, ◌<◌, ◌+◌}
use Rattle.dw_memo.specs.Content.{IsMap}
use Rattle.dw_solve.specs.Facts.{AreTrue}
use Rattle.dw_solve.specs.Searching.{IsCounted}
use Rattle.dw_verdict.specs.Verdict.{IsWinning}
use Rattle.dw_first_moves.proofs.later.later_win.Given as goal

abbrev pub invariant-left : goal.invariant-left
invariant-left g l = record {
  none : (j : ℕ) → j < l.left + 1 → IsWinning g.B.Board.geometry l.position j l.mv → ⊥;
  count : IsCounted l.initial.solver.expanded l.initial.solver.limit l.solver.expanded l.solver.limit;
  right : AreTrue g.B.Board.geometry (g.M.Memo.content l.solver.memo);
  map : IsMap (g.M.Memo.content l.solver.memo);
}
