use Rattle.dw_solve.proofs.CountingLemmas.{decided_counted}
use Rattle.dw_solve.proofs.laws.decided_are_counted.Goals as goal

pub returns : goal.returns
returns c = decided_counted
