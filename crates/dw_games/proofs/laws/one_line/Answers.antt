use Rattle.dw_games.proofs.OneLineLemmas.{one_line}
use Rattle.dw_games.proofs.laws.one_line.Goals as goal

pub returns : goal.returns
returns c = one_line c.texts_have_one_answer.ensures.answer
