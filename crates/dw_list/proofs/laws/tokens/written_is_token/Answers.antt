use Rattle.dw_list.proofs.TokenLawLemmas as law
use Rattle.dw_list.proofs.laws.tokens.written_is_token.Goals as goal

pub returns : goal.returns
returns c = law.written_is_token
