use Rattle.dw_list.proofs.TokenLawLemmas as law
use Rattle.dw_list.proofs.laws.tokens.one_line.Goals as goal

pub returns : goal.returns
returns c = law.one_line
