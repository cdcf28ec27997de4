use Rattle.dw_games.proofs.ToldLemmas.{prefix_is_enough}
use Rattle.dw_games.proofs.laws.prefix_is_enough.Goals as goal

pub returns : goal.returns
returns c = prefix_is_enough
