use Rattle.dw_notation.proofs.MoveNameLemmas.{names_one}
use Rattle.dw_notation.proofs.MoveAnswerLemmas.{one_answer}
use Rattle.dw_notation.proofs.laws.texts_have_one_answer.Goals as goal

pub returns : goal.returns
returns c = record { named = names_one; answer = one_answer }
