use Rattle.dw_games.proofs.TagRowLemmas.{one_row_of_tags}
use Rattle.dw_games.proofs.laws.one_row_of_tags.Goals as goal

pub returns : goal.returns
returns c = one_row_of_tags c.one_tag_at_front.ensures
