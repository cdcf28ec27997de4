use Rattle.dw_memo.specs.Content.{IsMap}
use Rattle.dw_solve.specs.Facts.{AreTrue}
use Rattle.dw_solve.specs.Searching.{IsCounted}
use Rattle.dw_first_moves.proofs.LaterLemmas.{LaterTo}
use Rattle.dw_first_moves.proofs.later.later_wins.Given as goal

abbrev pub invariant-moves : goal.invariant-moves
invariant-moves g l = record {
  later : LaterTo (λ item. item.step) g.B.Board.geometry l.position l.bounds.moves.value l.bounds.most.value
      l.item-items l.item-index l.later.items;
  count : IsCounted l.initial.solver.expanded l.initial.solver.limit l.solver.expanded l.solver.limit;
  right : AreTrue g.B.Board.geometry (g.M.Memo.content l.solver.memo);
  map : IsMap (g.M.Memo.content l.solver.memo);
}
