use Rattle.dw_moves.proofs.CaptureBoundLemmas.{path_bound}
use Rattle.dw_moves.proofs.laws.path_is_short.Goals as goal

pub returns : goal.returns
returns c = path_bound
