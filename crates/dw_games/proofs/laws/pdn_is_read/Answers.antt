use Rattle.dw_games.proofs.PdnLemmas.{pdn_is_read}
use Rattle.dw_games.proofs.laws.pdn_is_read.Goals as goal

pub returns : goal.returns
returns c = pdn_is_read
