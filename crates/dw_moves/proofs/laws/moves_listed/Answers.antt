use Rattle.dw_moves.proofs.PlainLemmas.{legal_list}
use Rattle.dw_moves.proofs.LegalMoveLemmas.{legal_from, legal_in}
use Rattle.dw_moves.proofs.laws.moves_listed.Goals as goal

pub returns : goal.returns
returns c = λ g p. (legal_list g p, λ m. (legal_from g p m, legal_in g p m))
