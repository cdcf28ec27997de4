use Rattle.dw_list.proofs.TokenLawLemmas as law
use Rattle.dw_list.proofs.laws.tokens.version_1_keeps.Goals as goal

pub returns : goal.returns
returns c = law.version_1_keeps
