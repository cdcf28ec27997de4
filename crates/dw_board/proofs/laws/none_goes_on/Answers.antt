use Rattle.dw_board.proofs.FenLawLemmas as law
use Rattle.dw_board.proofs.laws.none_goes_on.Goals as goal

pub returns : goal.returns
returns c = record { behind = law.none_goes_on; before = law.none_before }
