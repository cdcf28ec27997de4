use Rattle.dw_games.proofs.TellingLemmas.{games_tell_sections}
use Rattle.dw_games.proofs.laws.games_tell_sections.Goals as goal

pub returns : goal.returns
returns c = games_tell_sections
