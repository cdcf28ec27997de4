use Rattle.std.proofs.Common.{ap}
use Rattle.dw_memo.specs.Content.{Content}
use Rattle.dw_memo.specs.Holding.{Holding}
use Rattle.dw_memo.proofs.GrowingLemmas.{new_empty}
use Rattle.dw_memo.proofs.table.Table.new.Goals as goal

abbrev holding : Content → Holding
holding c = record { content = c; dropped = 0 }

pub returns : goal.returns
returns g c = ap holding (new_empty g.B.Board.geometry g.T.Bucket.entries c.first_size.result
    c.in_ok-buckets.buckets.items c.widen.new.buckets.items c.in_ok-buckets.ensures.items c.first_size.ensures.some
    c.in_ok-widen.ensures.wider)
