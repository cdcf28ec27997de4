use Rattle.dw_list.proofs.TokenLawLemmas as law
use Rattle.dw_list.proofs.laws.tokens.tokens_have_no_fault.Goals as goal

pub returns : goal.returns
returns c = law.tokens_have_no_fault
