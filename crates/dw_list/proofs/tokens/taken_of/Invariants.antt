use Rattle.dw_list.proofs.TokenBitLemmas.{IsGathered}
use Rattle.dw_list.proofs.tokens.taken_of.Given as goal

abbrev pub invariant-bits : goal.invariant-bits
invariant-bits g l = IsGathered l.number l.index l.taken
