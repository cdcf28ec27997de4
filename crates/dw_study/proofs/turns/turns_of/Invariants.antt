use Rattle.dw_study.proofs.TurnLemmas.{TurnsTo}
use Rattle.dw_study.proofs.turns.turns_of.Given as goal

abbrev pub invariant-nodes : goal.invariant-nodes
invariant-nodes g l = TurnsTo l.tree.paths l.place l.most
