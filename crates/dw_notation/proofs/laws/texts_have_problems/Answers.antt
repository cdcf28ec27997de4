use Rattle.dw_notation.proofs.ProblemLemmas.{texts_have_problems}
use Rattle.dw_notation.proofs.laws.texts_have_problems.Goals as goal

pub returns : goal.returns
returns c = texts_have_problems (c.reading_is_grammar.ensures.position, c.reading_is_grammar.ensures.fault)
