use Rattle.dw_board.proofs.FenLawLemmas as law
use Rattle.dw_board.proofs.laws.either_fen_or_faulty.Goals as goal

pub returns : goal.returns
returns c = law.either_fen_or_faulty
