use Rattle.dw_memo.specs.Content.{IsMap}
use Rattle.dw_moves.specs.Moves.{play}
use Rattle.dw_moves.specs.Order.{Precedes}
use Rattle.dw_solve.specs.Facts.{AreTrue}
use Rattle.dw_solve.specs.Searching.{IsCounted}
use Rattle.dw_solve.specs.Wins.{Win}
use Rattle.dw_verdict.specs.inner.GatheredLemmas.{GatheredTo}
use Rattle.dw_first_moves.proofs.effects.refutations.Given as goal

abbrev pub invariant-replies : goal.invariant-replies
invariant-replies g l = record {
  found : GatheredTo (λ item. item.step) (Precedes g.B.Board.geometry l.after) (λ m. m)
      (λ m. Win g.B.Board.geometry (play g.B.Board.geometry l.after m) l.left → ⊥) l.reply-items l.reply-index
      l.replies.items;
  count : IsCounted l.initial.solver.expanded l.initial.solver.limit l.solver.expanded l.solver.limit;
  right : AreTrue g.B.Board.geometry (g.M.Memo.content l.solver.memo);
  map : IsMap (g.M.Memo.content l.solver.memo);
}
