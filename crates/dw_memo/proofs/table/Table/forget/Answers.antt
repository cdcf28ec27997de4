use Rattle.std.proofs.Common.{subst, sym}
use Rattle.dw_memo.specs.Content.{IsMap}
use Rattle.dw_memo.specs.Holding.{Holding}
use Rattle.dw_memo.proofs.BucketLemmas.{table_map}
use Rattle.dw_memo.proofs.table.Table.forget.Goals as goal

pub returns-then-len-gt-FEW-clause-map : goal.returns-then-len-gt-FEW-clause-map
returns-then-len-gt-FEW-clause-map g c =
    subst (λ (h : Holding). IsMap h.content) c.self.view_is
    (table_map g.B.Board.geometry g.T.Bucket.entries c.self.inside.buckets.items c.self.invariant)

pub returns-else-len-gt-FEW-clause-map : goal.returns-else-len-gt-FEW-clause-map
returns-else-len-gt-FEW-clause-map g c =
    subst (λ (h : Holding). IsMap h.content) c.self.view_is
    (table_map g.B.Board.geometry g.T.Bucket.entries c.self.inside.buckets.items c.self.invariant)

pub returns-then-len-gt-FEW-clause-map_after : goal.returns-then-len-gt-FEW-clause-map_after
returns-then-len-gt-FEW-clause-map_after g c = subst IsMap (sym c.clear.ensures.empty) tt

pub returns-else-len-gt-FEW-clause-map_after : goal.returns-else-len-gt-FEW-clause-map_after
returns-else-len-gt-FEW-clause-map_after g c =
    subst (λ (h : Holding). IsMap h.content) c.self.view_is
    (table_map g.B.Board.geometry g.T.Bucket.entries c.self.inside.buckets.items c.self.invariant)
