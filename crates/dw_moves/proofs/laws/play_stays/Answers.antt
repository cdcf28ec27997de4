use Rattle.dw_moves.proofs.PlayStaysLemmas.{play_stays}
use Rattle.dw_moves.proofs.laws.play_stays.Goals as goal

pub returns : goal.returns
returns c = play_stays
