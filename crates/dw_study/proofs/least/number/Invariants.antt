use Rattle.std.proofs.Common.{ℕ, ◌+◌, ◌-◌, ◌<◌, ◌≤◌}
use Rattle.dw_solve.specs.Certificates.{SaysLeast}
use Rattle.dw_solve.specs.Questions.{Idle, LostNothing, moment_of}
use Rattle.dw_solve.specs.Searching.{IsCounted}
use Rattle.dw_solve.specs.Wins.{Win}
use Rattle.dw_solve.specs.Work.{LossIsCounted, Searched}
use Rattle.dw_study.proofs.least.number.Given as goal

abbrev pub invariant-moves : goal.invariant-moves
invariant-moves g l = record {
  none : (j : ℕ) → j < l.moves → Win g.B.Board.geometry l.position j → ⊥;
  idle : (j : ℕ) → SaysLeast (g.M.Memo.content l.initial.solver.memo) l.position j → l.moves ≤ j + 1
      → Idle g.M.Memo.content l.initial.solver l.solver;
  count : IsCounted l.initial.solver.expanded l.initial.solver.limit l.solver.expanded l.solver.limit;
  searched : Searched g.B.Board.geometry (l.moves - 1) 0 (moment_of g.M.Memo.content g.M.Memo.dropped l.initial.solver)
      (moment_of g.M.Memo.content g.M.Memo.dropped l.solver);
  lost : LossIsCounted (g.M.Memo.dropped l.initial.solver.memo) (g.M.Memo.dropped l.solver.memo);
  says : LostNothing g.M.Memo.content g.M.Memo.dropped l.initial.solver l.solver
      → SaysLeast (g.M.Memo.content l.solver.memo) l.position (l.moves - 1);
}
