use Rattle.dw_games.proofs.OneGamesLemmas.{texts_have_games}
use Rattle.dw_games.proofs.laws.texts_have_games.Goals as goal

pub returns : goal.returns
returns c = texts_have_games c.texts_of_tags_say.ensures
