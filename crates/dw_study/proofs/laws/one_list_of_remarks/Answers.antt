use Rattle.dw_study.proofs.RemarkLemmas.{tree_has_one}
use Rattle.dw_study.proofs.laws.one_list_of_remarks.Goals as goal

pub returns : goal.returns
returns c = tree_has_one c.moves_have_keys.ensures c.wins_stay.ensures
