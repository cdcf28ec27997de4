use Rattle.dw_board.proofs.StepLemmas.{shifts_step}
use Rattle.dw_board.proofs.laws.shifts_step.Goals as goal

pub returns : goal.returns
returns c = shifts_step
