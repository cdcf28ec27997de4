use Rattle.dw_games.proofs.RuleLemmas.{one_side}
use Rattle.dw_games.proofs.laws.names_one_side.Goals as goal

pub returns : goal.returns
returns c = one_side c.texts_have_one_answer.ensures.named
