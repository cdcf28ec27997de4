use Rattle.std.proofs.Common.{◌≡◌, ◌≤◌, ◌-◌, length, take}
use Rattle.dw_notation.specs.Streams.{Appends}
use Rattle.dw_notation.proofs.writes.write_all.Given as goal

abbrev pub invariant-pieces : goal.invariant-pieces
invariant-pieces g l = record {
  inside : l.at ≤ length l.piece;
  taken : Appends (g.K.Sink.accepted l.initial.sink) (g.K.Sink.accepted l.sink) (take l.at l.piece);
  failed : g.K.Sink.is_failed l.sink ≡ g.K.Sink.is_failed l.initial.sink;
}

abbrev pub decreases-pieces : goal.decreases-pieces
decreases-pieces g l = length l.piece - l.at
