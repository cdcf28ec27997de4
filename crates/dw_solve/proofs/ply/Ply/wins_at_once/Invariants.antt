use Rattle.dw_solve.proofs.LastMoveLemmas.{Replied}
use Rattle.dw_solve.proofs.ply.Ply.wins_at_once.Given as goal

abbrev pub invariant-moves : goal.invariant-moves
invariant-moves g l = Replied g.B.Board.geometry l.position l.mv-items l.mv-index
