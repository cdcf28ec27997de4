use Rattle.dw_games.proofs.GameProblemLemmas.{games_say_problems}
use Rattle.dw_games.proofs.laws.games_say_problems.Goals as goal

pub returns : goal.returns
returns c = games_say_problems
