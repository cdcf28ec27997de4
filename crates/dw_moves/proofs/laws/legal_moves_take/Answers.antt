use Rattle.dw_moves.proofs.LegalTakeLemmas.{legal_moves_take}
use Rattle.dw_moves.proofs.laws.legal_moves_take.Goals as goal

pub returns : goal.returns
returns c = legal_moves_take
