use Rattle.dw_memo.proofs.SlotLemmas.{noted_as}
use Rattle.dw_memo.proofs.slot.SlotBucket.enter.Goals as goal

pub returns-clause-note : goal.returns-clause-note
returns-clause-note g c = noted_as c.args.self.now c.with.result c.args.position.now c.args.bounds c.new.result
    c.lost-lost.result c.new.ensures c.with.ensures c.lost-lost.ensures
