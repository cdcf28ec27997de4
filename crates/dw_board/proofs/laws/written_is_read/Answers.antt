use Rattle.dw_board.proofs.FenLawLemmas as law
use Rattle.dw_board.proofs.laws.written_is_read.Goals as goal

pub returns : goal.returns
returns c = record { fen = law.written_is_fen; read = law.written_is_read }
