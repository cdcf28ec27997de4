use Rattle.std.proofs.Common.{map, take}
use Rattle.dw_memo.specs.Content.{IsMap}
use Rattle.dw_solve.specs.Facts.{AreTrue}
use Rattle.dw_solve.specs.Searching.{IsCounted}
use Rattle.dw_first_moves.specs.FirstMoves.{AreEffects}
use Rattle.dw_first_moves.specs.Telling.{told_by}
use Rattle.dw_first_moves.proofs.first_moves.effects_of.Given as goal

abbrev pub invariant-some : goal.invariant-some
invariant-some g l = record {
  done : AreEffects g.B.Board.geometry l.position l.fn.moves.value (take l.mv-index l.some) (map told_by l.done.items);
  count : IsCounted l.initial.solver.expanded l.initial.solver.limit l.solver.expanded l.solver.limit;
  right : AreTrue g.B.Board.geometry (g.M.Memo.content l.solver.memo);
  map : IsMap (g.M.Memo.content l.solver.memo);
}
