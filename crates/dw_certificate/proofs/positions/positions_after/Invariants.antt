use Rattle.std.proofs.Common.{◌≡◌, map, take}
use Rattle.dw_moves.specs.Moves.{play}
use Rattle.dw_certificate.proofs.positions.positions_after.Given as goal

abbrev pub invariant-moves : goal.invariant-moves
invariant-moves g l = l.list.items ≡ map (λ m. play g.B.Board.geometry l.position m) (take l.mv-index l.mv-items)
