use Rattle.dw_memo.proofs.any_memo.AnyMemoMemo.forget.Goals as goal

pub returns-in-Lru-clause-forgets : goal.returns-in-Lru-clause-forgets
returns-in-Lru-clause-forgets g c = rw c.in-Lru.is c.forget-in-Lru.ensures.forgets

pub returns-in-Slots-clause-forgets : goal.returns-in-Slots-clause-forgets
returns-in-Slots-clause-forgets g c = rw c.in-Slots.is c.forget-in-Slots.ensures.forgets

pub returns-in-Deep-clause-forgets : goal.returns-in-Deep-clause-forgets
returns-in-Deep-clause-forgets g c = rw c.in-Deep.is c.forget-in-Deep.ensures.forgets
