use Rattle.dw_games.proofs.OneAnswerLemmas.{one_answer}
use Rattle.dw_games.proofs.laws.one_answer.Goals as goal

pub returns : goal.returns
returns c = one_answer c.texts_have_one_answer.ensures.answer
