use Rattle.dw_games.proofs.PlayedLemmas.{tree_played}
use Rattle.dw_games.proofs.laws.trees_are_played.Goals as goal

pub returns : goal.returns
returns c = tree_played
