use Rattle.dw_notation.proofs.EndedLemmas.{ended_come_first}
use Rattle.dw_notation.proofs.laws.ended_come_first.Goals as goal

pub returns : goal.returns
returns c = ended_come_first (c.reading_is_grammar.ensures.position, c.reading_is_grammar.ensures.fault)
