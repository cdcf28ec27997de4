use Rattle.dw_board.proofs.FenLawLemmas as law
use Rattle.dw_board.proofs.laws.names_one.Goals as goal

pub returns : goal.returns
returns c = law.names_one
