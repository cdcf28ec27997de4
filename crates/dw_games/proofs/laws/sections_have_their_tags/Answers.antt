use Rattle.dw_games.proofs.TagRowLemmas.{sections_have_their_tags}
use Rattle.dw_games.proofs.laws.sections_have_their_tags.Goals as goal

pub returns : goal.returns
returns c = sections_have_their_tags c.one_tag_at_front.ensures
