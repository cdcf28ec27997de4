use Rattle.std.proofs.Common.{inr}
use Rattle.dw_solve.proofs.MemoLemmas.{still_true}
use Rattle.dw_solve.proofs.solver.Solver.clear_memo.Goals as goal

pub invariant_of-self : goal.invariant_of-self
invariant_of-self g c = (
  still_true g.B.Board.geometry (g.M.Memo.content c.self.inside.search.memo) (g.M.Memo.content c.clear.new.self)
      c.self.invariant.0 (inr c.clear.ensures.empty),
  c.self.invariant.1,
)
