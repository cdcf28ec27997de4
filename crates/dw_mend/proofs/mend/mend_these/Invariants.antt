use Rattle.std.proofs.Common.{◌≡◌, ℕ, ◌+◌, ◌-◌, ◌≤◌, false, take, length, List, map}
use Rattle.dw_notation.specs.Streams.{Appends}
use Rattle.dw_memo.specs.Content.{IsMap}
use Rattle.dw_solve.specs.Facts.{AreTrue}
use Rattle.dw_solve.specs.Searching.{IsCounted}
use Rattle.dw_mend.specs.Mending.{AreBounded, AreMended}
use Rattle.dw_mend.specs.Telling.{told_by}
use Rattle.dw_mend.proofs.mend.mend_these.Given as goal

abbrev pub invariant-neighbours : goal.invariant-neighbours
invariant-neighbours g l = record {
  text : (text : List ℕ) × AreMended l.bounds.wording g.B.Board.geometry l.bounds.moves.value l.bounds.each
      (map told_by (take l.neighbour-index l.some)) text (record {
        sound = l.mended.sound;
        undecided = l.mended.undecided;
        expanded = l.solver.expanded - l.initial.solver.expanded;
      })
      × Appends (g.K.Sink.accepted l.initial.sink) (g.K.Sink.accepted l.sink) text;
  all : l.mended.all ≡ length l.some;
  few : l.mended.sound + l.mended.undecided ≤ l.neighbour-index;
  bounded : AreBounded l.bounds.each l.neighbour-index l.mended.undecided l.initial.solver.expanded l.solver.expanded;
  count : IsCounted l.initial.solver.expanded l.initial.solver.limit l.solver.expanded l.solver.limit;
  right : AreTrue g.B.Board.geometry (g.M.Memo.content l.solver.memo);
  map : IsMap (g.M.Memo.content l.solver.memo);
  works : g.K.Sink.is_failed l.sink ≡ false;
}
