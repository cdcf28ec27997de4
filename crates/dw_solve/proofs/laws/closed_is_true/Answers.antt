use Rattle.dw_solve.proofs.FactLemmas.{closed_true}
use Rattle.dw_solve.proofs.laws.closed_is_true.Goals as goal

pub returns : goal.returns
returns c = closed_true
