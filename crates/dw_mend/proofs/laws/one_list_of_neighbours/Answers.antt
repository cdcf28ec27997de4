use Rattle.dw_mend.proofs.MakingLemmas.{one_list}
use Rattle.dw_mend.proofs.laws.one_list_of_neighbours.Goals as goal

pub returns : goal.returns
returns c = one_list
