use Rattle.dw_memo.proofs.any_memo.AnyMemoMemo.look.Goals as goal

pub returns-in-Lru-clause-same : goal.returns-in-Lru-clause-same
returns-in-Lru-clause-same g c = rw c.in-Lru.is c.look-in-Lru.ensures.same

pub returns-in-Slots-clause-same : goal.returns-in-Slots-clause-same
returns-in-Slots-clause-same g c = rw c.in-Slots.is c.look-in-Slots.ensures.same

pub returns-in-Deep-clause-same : goal.returns-in-Deep-clause-same
returns-in-Deep-clause-same g c = rw c.in-Deep.is c.look-in-Deep.ensures.same
