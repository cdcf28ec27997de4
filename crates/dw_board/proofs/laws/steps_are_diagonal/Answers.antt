use Rattle.dw_board.proofs.StepLemmas.{steps_are_diagonal, steps_stay}
use Rattle.dw_board.proofs.laws.steps_are_diagonal.Goals as goal

pub returns-clause-steps : goal.returns-clause-steps
returns-clause-steps c = steps_are_diagonal

pub returns-clause-stay : goal.returns-clause-stay
returns-clause-stay c = steps_stay
