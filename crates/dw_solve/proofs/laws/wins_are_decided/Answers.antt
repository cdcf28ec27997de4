use Rattle.dw_solve.proofs.WinLemmas.{win_or_not}
use Rattle.dw_solve.proofs.laws.wins_are_decided.Goals as goal

pub returns : goal.returns
returns c = win_or_not c.moves_listed.ensures
