use Rattle.dw_notation.proofs.WholeLineLemmas.{lines_have_texts}
use Rattle.dw_notation.proofs.laws.lines_have_texts.Goals as goal

pub returns : goal.returns
returns c = lines_have_texts c.moves_have_texts.ensures
