use Rattle.dw_board.proofs.FenLawLemmas as law
use Rattle.dw_board.proofs.laws.reading_is_grammar.Goals as goal

pub returns : goal.returns
returns c = record { position = law.reading_is_grammar; fault = law.fault_is_grammar }
