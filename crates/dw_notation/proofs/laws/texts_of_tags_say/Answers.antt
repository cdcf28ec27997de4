use Rattle.dw_notation.proofs.ProblemLemmas.{texts_of_tags_say}
use Rattle.dw_notation.proofs.laws.texts_of_tags_say.Goals as goal

pub returns : goal.returns
returns c = texts_of_tags_say (c.reading_is_grammar.ensures.position, c.reading_is_grammar.ensures.fault)
