use Rattle.std.proofs.Common.{◌≡◌, ℕ, arith, subst}
use Rattle.dw_memo.specs.inner.Growing.{IsEmptied}
use Rattle.dw_memo.proofs.GrowingLemmas.{emptied_held}
use Rattle.dw_memo.proofs.growing.clear.Goals as goal

pub returns-clause-empty : goal.returns-clause-empty
returns-clause-empty g c =
    let all : c.buckets.index ≡ c.first_size-size.result = omega (arith, c.buckets-test.false, c.buckets.auto.index-end)
    in emptied_held g.B.Board.geometry g.T.Bucket.entries c.first_size-size.result c.buckets.buckets.items
    c.first_size-size.ensures.some
    (subst (λ (n : ℕ). IsEmptied g.T.Bucket.entries c.first_size-size.result n c.buckets.buckets.items) all
    c.buckets.invariant)
