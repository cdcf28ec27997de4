use Rattle.dw_memo.specs.inner.Growing.{IsEmptied}
use Rattle.dw_memo.proofs.growing.clear.Given as goal

abbrev pub invariant-buckets : goal.invariant-buckets
invariant-buckets g l = IsEmptied g.T.Bucket.entries l.size l.index l.buckets.items
