use Rattle.dw_report.proofs.JoiningLemmas.{Reaches}
use Rattle.dw_report.proofs.judged.reached.Given as goal

abbrev pub invariant-moves : goal.invariant-moves
invariant-moves g l = Reaches g.B.Board.geometry l.position l.moves l.mv-index l.current
