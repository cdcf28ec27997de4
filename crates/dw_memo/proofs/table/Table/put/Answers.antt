use Rattle.std.proofs.Common.{◌≡◌, length, arith, subst}
use Rattle.dw_memo.specs.inner.Buckets.{held}
use Rattle.dw_memo.specs.Holding.{Holding}
use Rattle.dw_memo.specs.Noting.{IsNote}
use Rattle.std.proofs.Math.ListN.{set}
use Rattle.dw_memo.proofs.BucketLemmas.{table_map, noted, noted_table}
use Rattle.dw_memo.proofs.GrowingLemmas.{noted_larger}
use Rattle.dw_memo.proofs.NoteLemmas.{counted_on}
use Rattle.dw_memo.proofs.table.Table.put.Goals as goal

pub invariant_of-self : goal.invariant_of-self
invariant_of-self g c =
    let buckets = c.make_room.new.buckets.items in
    let n : c.len.result ≡ length buckets = omega (arith, c.len.ensures, c.make_room.new.buckets.ok) in
    noted_table g.B.Board.geometry g.T.Bucket.entries buckets c.len.result c.bucket_of-index.result
    c.index_mut.result.now c.enter-entered.new.self c.args.position.now c.args.bounds c.enter-entered.result.noted
    c.enter-entered.result.lost c.make_room.ensures.table n c.bucket_of-index.ensures.bucket
    c.bucket_of-index.ensures.within c.index_mut.ensures.value c.enter-entered.ensures.note

pub returns-clause-note : goal.returns-clause-note
returns-clause-note g c =
    let of = g.T.Bucket.entries in
    let old = c.self.inside.buckets.items in
    let buckets = c.make_room.new.buckets.items in
    let n : c.len.result ≡ length buckets = omega (arith, c.len.ensures, c.make_room.new.buckets.ok) in
    let p = c.args.position.now in
    let answer = c.enter-entered.result.noted in
    let lost = c.enter-entered.result.lost in
    let after = held of (set buckets c.bucket_of-index.result c.enter-entered.new.self) in
    subst (λ (h : Holding). IsNote h.content p c.args.bounds answer after h.dropped
    c.saturating_add-self-inside-2.result) c.self.view_is
    (counted_on (held of old) p c.args.bounds answer after lost c.self.inside.dropped
    c.saturating_add-self-inside-2.result
    (noted_larger (held of old) (held of buckets) p c.args.bounds answer after lost
    (table_map g.B.Board.geometry of old c.self.invariant) c.make_room.ensures.same
    (noted g.B.Board.geometry of buckets c.len.result c.bucket_of-index.result
    c.index_mut.result.now c.enter-entered.new.self p c.args.bounds answer lost c.make_room.ensures.table n
    c.bucket_of-index.ensures.bucket c.bucket_of-index.ensures.within c.index_mut.ensures.value
    c.enter-entered.ensures.note))
    c.saturating_add-self-inside-2.ensures)
