use Rattle.dw_moves.proofs.ReplyLemmas.{step_quiet}
use Rattle.dw_moves.proofs.laws.steps_are_quiet.Goals as goal

pub returns : goal.returns
returns c = step_quiet
