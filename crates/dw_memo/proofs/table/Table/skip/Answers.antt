use Rattle.std.proofs.Common.{subst}
use Rattle.dw_memo.specs.Content.{IsMap}
use Rattle.dw_memo.specs.Holding.{Holding}
use Rattle.dw_memo.proofs.BucketLemmas.{table_map}
use Rattle.dw_memo.proofs.table.Table.skip.Goals as goal

pub returns-clause-map : goal.returns-clause-map
returns-clause-map g c =
    subst (λ (h : Holding). IsMap h.content) c.self.view_is
    (table_map g.B.Board.geometry g.T.Bucket.entries c.self.inside.buckets.items c.self.invariant)
