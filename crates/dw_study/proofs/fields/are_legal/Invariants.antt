use Rattle.dw_study.proofs.BeginningLemmas.{LegalTo}
use Rattle.dw_study.proofs.fields.are_legal.Given as goal

abbrev pub invariant-moves : goal.invariant-moves
invariant-moves g l = LegalTo g.B.Board.geometry l.position l.moves l.mv-index
