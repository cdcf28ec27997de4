use Rattle.dw_verdict.proofs.VerdictLemmas.{tries_some, tries_only}
use Rattle.dw_verdict.proofs.laws.tries_are_listed.Goals as goal

pub returns : goal.returns
returns c = record {
  some = tries_some c.wins_are_decided.ensures c.moves_in_order.ensures c.moves_have_keys.ensures;
  only = λ g board p n ts us h k. tries_only c.moves_have_keys.ensures g p n ts us h k;
}
