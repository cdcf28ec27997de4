use Rattle.dw_memo.proofs.any_memo.AnyMemoMemo.skip_one_move.Goals as goal

pub returns-in-Lru-clause-same : goal.returns-in-Lru-clause-same
returns-in-Lru-clause-same g c = rw c.in-Lru.is c.skip_one_move-in-Lru.ensures.same

pub returns-in-Slots-clause-same : goal.returns-in-Slots-clause-same
returns-in-Slots-clause-same g c = rw c.in-Slots.is c.skip_one_move-in-Slots.ensures.same

pub returns-in-Deep-clause-same : goal.returns-in-Deep-clause-same
returns-in-Deep-clause-same g c = rw c.in-Deep.is c.skip_one_move-in-Deep.ensures.same
