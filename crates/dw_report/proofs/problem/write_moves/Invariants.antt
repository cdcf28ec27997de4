use Rattle.std.proofs.Common.{◌≡◌}
use Rattle.dw_report.proofs.MoveLineLemmas.{LinesTo}
use Rattle.dw_report.proofs.problem.write_moves.Given as goal

abbrev pub invariant-moves : goal.invariant-moves
invariant-moves g l = record {
  lines : LinesTo g.B.Board.geometry l.position l.moves l.place (g.K.Sink.accepted l.initial.sink)
      (g.K.Sink.accepted l.sink);
  sink : g.K.Sink.is_failed l.sink ≡ g.K.Sink.is_failed l.initial.sink;
}
