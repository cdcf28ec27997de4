use Rattle.dw_study.proofs.ExactLemmas.{ends_numbered}
use Rattle.dw_study.proofs.laws.ends_have_numbers.Goals as goal

pub returns : goal.returns
returns c = λ g board p text tree is n remarks are.
    ends_numbered c.wins_are_decided.ensures c.moves_in_order.ensures g board p tree
    (c.trees_are_played.ensures g p text tree is) is.some n remarks are
