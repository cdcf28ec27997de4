use Rattle.std.proofs.Common.{◌≡◌, ◌+◌, ◌-◌, ℕ, arith, subst}
use Rattle.dw_memo.specs.inner.Growing.{IsHalfway}
use Rattle.dw_memo.proofs.GrowingLemmas.{begun, still_map, one_further, done_table, done_same}
use Rattle.dw_memo.proofs.growing.double.Goals as goal

pub buckets-init : goal.buckets-init
buckets-init g c = record {
  within = omega arith;
  halfway = begun g.B.Board.geometry g.T.Bucket.entries c.len-size.result c.args.buckets.now.items
      c.widen.new.buckets.items (omega (arith, c.len-size.ensures, c.args.buckets.now.ok)) c.in-Ok.ensures.wider;
}

pub bring_home-requires-clause-map : goal.bring_home-requires-clause-map
bring_home-requires-clause-map g c =
    let on : c.buckets.left ≡ c.buckets.left - 1 + 1 = omega (arith, c.buckets-test.true) in
    still_map g.B.Board.geometry g.T.Bucket.entries c.len-size.result (c.buckets.left - 1)
    c.args.buckets.now.items c.buckets.buckets.items c.requires.table
    (omega (arith, c.len-size.ensures, c.args.buckets.now.ok))
    (subst (λ (n : ℕ). IsHalfway g.B.Board.geometry g.T.Bucket.entries c.len-size.result n
    c.args.buckets.now.items c.buckets.buckets.items) on c.buckets.invariant.halfway)
    (omega (arith, c.buckets.invariant.within, c.buckets-test.true))

pub buckets-preserved : goal.buckets-preserved
buckets-preserved g c = record {
  within = omega (arith, c.buckets.invariant.within);
  halfway = let on : c.buckets.left ≡ c.buckets.left - 1 + 1 = omega (arith, c.buckets-test.true) in
      one_further g.B.Board.geometry g.T.Bucket.entries c.len-size.result (c.buckets.left - 1)
      c.args.buckets.now.items c.buckets.buckets.items c.bring_home.new.buckets.items
      (subst (λ (n : ℕ). IsHalfway g.B.Board.geometry g.T.Bucket.entries c.len-size.result n
      c.args.buckets.now.items c.buckets.buckets.items) on c.buckets.invariant.halfway)
      (omega (arith, c.buckets.invariant.within, c.buckets-test.true)) c.bring_home.ensures;
}

pub returns-clause-table : goal.returns-clause-table
returns-clause-table g c =
    let none : c.buckets.left ≡ 0 = omega (arith, c.buckets-test.false) in
    done_table g.B.Board.geometry g.T.Bucket.entries c.len-size.result c.args.buckets.now.items
    c.buckets.buckets.items c.requires.table (omega (arith, c.len-size.ensures, c.args.buckets.now.ok))
    (subst (λ (n : ℕ). IsHalfway g.B.Board.geometry g.T.Bucket.entries c.len-size.result n
    c.args.buckets.now.items c.buckets.buckets.items) none c.buckets.invariant.halfway)

pub returns-clause-same : goal.returns-clause-same
returns-clause-same g c =
    let none : c.buckets.left ≡ 0 = omega (arith, c.buckets-test.false) in
    done_same g.B.Board.geometry g.T.Bucket.entries c.len-size.result c.args.buckets.now.items
    c.buckets.buckets.items c.requires.table (omega (arith, c.len-size.ensures, c.args.buckets.now.ok))
    (subst (λ (n : ℕ). IsHalfway g.B.Board.geometry g.T.Bucket.entries c.len-size.result n
    c.args.buckets.now.items c.buckets.buckets.items) none c.buckets.invariant.halfway)
