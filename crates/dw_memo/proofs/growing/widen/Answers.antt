use Rattle.std.specs.Prelude.{is_ok}
use Rattle.dw_memo.proofs.GrowingLemmas.{one_pushed}
use Rattle.dw_memo.proofs.growing.widen.Goals as goal

pub more-preserved : goal.more-preserved
more-preserved g c = one_pushed g.T.Bucket.entries c.more.counter c.args.buckets.now.items c.more.buckets.items
    c.push.new.self.items c.empty.result (is_ok c.push.result) c.more.invariant c.empty.ensures
    c.if-is_err.ensures.negation c.push.ensures.items
