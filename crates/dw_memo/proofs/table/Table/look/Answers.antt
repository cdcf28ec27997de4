use Rattle.std.proofs.Common.{◌≡◌, length, arith, subst}
use Rattle.dw_memo.specs.Content.{IsMap, IsFound}
use Rattle.dw_memo.specs.Holding.{Holding}
use Rattle.dw_memo.proofs.BucketLemmas.{table_map, found}
use Rattle.dw_memo.proofs.table.Table.look.Goals as goal

pub returns-clause-map : goal.returns-clause-map
returns-clause-map g c =
    subst (λ (h : Holding). IsMap h.content) c.self.view_is
    (table_map g.B.Board.geometry g.T.Bucket.entries c.self.inside.buckets.items c.self.invariant)

pub returns-clause-found : goal.returns-clause-found
returns-clause-found g c =
    let n : c.len.result ≡ length c.self.inside.buckets.items = omega (arith, c.len.ensures, c.self.inside.buckets.ok)
    in
    subst (λ (h : Holding). IsFound h.content c.args.position.now c.look.result) c.self.view_is
    (found g.B.Board.geometry g.T.Bucket.entries c.self.inside.buckets.items c.len.result c.bucket_of-index.result
    c.args.position.now c.index.result.now c.look.result c.self.invariant n c.bucket_of-index.ensures.bucket
    c.bucket_of-index.ensures.within c.index.ensures c.look.ensures)
