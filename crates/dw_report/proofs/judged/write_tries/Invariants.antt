use Rattle.std.proofs.Common.{◌≡◌, map, take}
use Rattle.dw_solve.specs.Questions.{moment_of}
use Rattle.dw_solve.specs.Work.{Searched}
use Rattle.dw_report.proofs.SpendingLemmas.{Counted}
use Rattle.dw_report.proofs.TryTextLemmas.{WroteTo}
use Rattle.dw_report.proofs.judged.write_tries.Given as goal

abbrev pub invariant-moves : goal.invariant-moves
invariant-moves g l = record {
  wrote : WroteTo g.B.Board.geometry l.position l.moves (map (λ item. item.step) (take l.item-index l.item-items))
      (g.K.Sink.accepted l.initial.sink) (g.K.Sink.accepted l.sink);
  sink : g.K.Sink.is_failed l.sink ≡ g.K.Sink.is_failed l.initial.sink;
  counted : Counted l.initial.solver l.solver;
  searched : Searched g.B.Board.geometry l.moves 0 (moment_of g.M.Memo.content g.M.Memo.dropped l.initial.solver)
      (moment_of g.M.Memo.content g.M.Memo.dropped l.solver);
}
