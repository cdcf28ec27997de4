use Rattle.dw_memo.specs.inner.Growing.{IsWidened}
use Rattle.dw_memo.proofs.growing.widen.Given as goal

abbrev pub invariant-more : goal.invariant-more
invariant-more g l = IsWidened g.T.Bucket.entries l.counter l.fn.buckets.items l.buckets.items
