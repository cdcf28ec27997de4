use Rattle.dw_moves.proofs.PathTellsLemmas.{path_tells}
use Rattle.dw_moves.proofs.laws.path_tells.Goals as goal

pub returns : goal.returns
returns c = path_tells
