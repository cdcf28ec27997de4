use Rattle.std.proofs.Common.{◌≡◌, map, take}
use Rattle.std.specs.String.{string_bytes}
use Rattle.dw_report.specs.inner.Rows.{move_pair}
use Rattle.dw_report.proofs.json_rows.move_pairs.Given as goal

abbrev pub invariant-moves : goal.invariant-moves
invariant-moves g l = map (λ pair. (string_bytes pair.0, string_bytes pair.1)) l.pairs.items
    ≡ map (move_pair g.B.Board.geometry l.position l.list) (take l.place l.list)
