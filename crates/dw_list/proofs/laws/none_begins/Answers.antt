use Rattle.dw_list.proofs.DecidingLemmas.{none_begins}
use Rattle.dw_list.proofs.laws.none_begins.Goals as goal

pub returns : goal.returns
returns c = none_begins
