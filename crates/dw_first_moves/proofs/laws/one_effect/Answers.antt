use Rattle.dw_first_moves.proofs.LawLemmas.{one_effect}
use Rattle.dw_first_moves.proofs.laws.one_effect.Goals as goal

pub returns : goal.returns
returns c = one_effect c.moves_in_order.ensures c.moves_have_keys.ensures c.wins_are_decided.ensures c.wins_stay.ensures
