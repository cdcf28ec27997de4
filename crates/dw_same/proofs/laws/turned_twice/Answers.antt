use Rattle.dw_same.proofs.TurnLemmas.{differs, turned_square, turned_twice}
use Rattle.dw_same.proofs.laws.turned_twice.Goals as goal

pub returns-clause-squares : goal.returns-clause-squares
returns-clause-squares c = turned_square

pub returns-clause-twice : goal.returns-clause-twice
returns-clause-twice c = turned_twice

pub returns-clause-differs : goal.returns-clause-differs
returns-clause-differs c = differs
