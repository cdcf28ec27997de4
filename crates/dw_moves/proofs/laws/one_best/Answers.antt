use Rattle.dw_moves.proofs.PlainLemmas.{best}
use Rattle.dw_moves.proofs.LegalMoveLemmas.{is_best, best_only}
use Rattle.dw_moves.proofs.laws.one_best.Goals as goal

pub returns : goal.returns
returns c = record { some = λ g p. (best g p, is_best g p); only = best_only }
