use Rattle.dw_moves.proofs.WorkedPositionLemmas.{worked_positions}
use Rattle.dw_moves.proofs.laws.worked_positions.Goals as goal

pub returns : goal.returns
returns c = worked_positions
