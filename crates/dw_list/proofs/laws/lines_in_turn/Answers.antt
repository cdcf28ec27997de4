use Rattle.dw_list.proofs.StepLemmas.{gives_nothing, gives_then}
use Rattle.dw_list.proofs.laws.lines_in_turn.Goals as goal

pub returns : goal.returns
returns c = record { nothing = gives_nothing; then = gives_then }
