use Rattle.dw_memo.proofs.PairLemmas.{found_first, found_second}
use Rattle.dw_memo.proofs.pair.PairBucket.look.Goals as goal

pub returns-in-Some : goal.returns-in-Some
returns-in-Some g c = found_first c.args.self.now.first c.args.self.now.second c.args.position.now c.bounds_of.result
    c.in-Some.bounds c.bounds_of.ensures c.in-Some.is

pub returns-in-None : goal.returns-in-None
returns-in-None g c = found_second c.args.self.now.first c.args.self.now.second c.args.position.now c.bounds_of.result
    c.bounds_of-in-None.result c.bounds_of.ensures c.in-None.is c.bounds_of-in-None.ensures
