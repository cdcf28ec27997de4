use Rattle.dw_solution.proofs.ReadLemmas.{read_back}
use Rattle.dw_solution.proofs.laws.movetexts_are_read.Goals as goal

pub returns : goal.returns
returns c = read_back c.pdn_is_read.ensures c.written_moves_are_read.ensures.named c.play_stays.ensures
    c.legal_moves_take.ensures
