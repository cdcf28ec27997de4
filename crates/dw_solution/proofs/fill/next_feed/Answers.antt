use Rattle.std.proofs.Common.{◌≤◌, ◌<◌, length, arith}
use Rattle.dw_solution.proofs.FillLemmas.{word_on, word_end, word_fed}
use Rattle.dw_solution.proofs.fill.next_feed.Goals as goal

pub bytes-preserved : goal.bytes-preserved
bytes-preserved c = record {
  low = omega (arith, c.bytes.invariant.low);
  within = omega arith;
  word = λ w words whole e.
      let low : c.bytes.place < length c.args.text.now = omega arith in
      word_on c.args.text.now c.args.from c.bytes.place w words low c.if-text-place-ne10.true
      (c.bytes.invariant.word w words whole e);
}

pub returns-else-text-place-ne10-clause-feed : goal.returns-else-text-place-ne10-clause-feed
returns-else-text-place-ne10-clause-feed c w words whole e =
    let low : c.bytes.place < length c.args.text.now = omega arith in
    word_fed c.args.text.now c.args.from c.bytes.place w words low c.if-text-place-ne10.false
    (c.bytes.invariant.word w words whole e)

pub returns-after-bytes-clause-feed : goal.returns-after-bytes-clause-feed
returns-after-bytes-clause-feed c w words whole e =
    let high : length c.args.text.now ≤ c.bytes.place = omega arith in
    word_end c.args.text.now c.args.from c.bytes.place w words high (c.bytes.invariant.word w words whole e)
