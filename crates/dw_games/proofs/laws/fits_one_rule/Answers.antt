use Rattle.dw_games.proofs.RuleLemmas.{fits_one_rule}
use Rattle.dw_games.proofs.laws.fits_one_rule.Goals as goal

pub returns : goal.returns
returns c = fits_one_rule c.texts_have_one_answer.ensures.named c.texts_have_one_answer.ensures.answer
