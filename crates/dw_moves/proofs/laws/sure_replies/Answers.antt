use Rattle.dw_moves.proofs.ShelterLemmas.{sure_reply}
use Rattle.dw_moves.proofs.laws.sure_replies.Goals as goal

pub returns : goal.returns
returns c = sure_reply
