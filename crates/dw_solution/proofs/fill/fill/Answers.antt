use Rattle.std.proofs.Common.{◌<◌, ◌++◌, length, refl, arith}
use Rattle.std.proofs.lemmas.List.{length-set}
use Rattle.dw_solution.specs.Movetext.{filled}
use Rattle.dw_solution.proofs.FillLemmas.{filled_next, ahead_word, filled_on, filled_apart, filled_all}
use Rattle.dw_solution.proofs.fill.fill.Goals as goal

pub feeds-preserved-then-end-line-le-MAX_COLUMN : goal.feeds-preserved-then-end-line-le-MAX_COLUMN
feeds-preserved-then-end-line-le-MAX_COLUMN c = record {
  begun = omega (arith, c.next_feed-end.ensures.low, c.feeds.invariant.begun);
  within = omega (arith, c.next_feed-end.ensures.within, length-set c.feeds.text c.feeds.feed 32);
  filled = λ w words a b e.
      let low : c.feeds.feed < length c.feeds.text = omega arith in
      let n = filled_next c.feeds.text (w ++ filled (length w) words) c.feeds.line c.feeds.feed
      (c.feeds.invariant.filled w words a b e) low in
      let end = c.next_feed-end.ensures.feed n.0 n.1 n.3 (ahead_word c.feeds.text n.2 n.0 n.1 c.feeds.feed n.5 n.6) in
      filled_on c.feeds.text _ (w ++ filled (length w) words) n.2 n.0 n.1 c.feeds.line c.feeds.feed
      c.next_feed-end.result n.4 n.5 n.6 n.7 n.8 refl end (omega arith);
}

pub feeds-preserved : goal.feeds-preserved
feeds-preserved c = record {
  begun = c.next_feed-end.ensures.low;
  within = c.next_feed-end.ensures.within;
  filled = λ w words a b e.
      let low : c.feeds.feed < length c.feeds.text = omega arith in
      let n = filled_next c.feeds.text (w ++ filled (length w) words) c.feeds.line c.feeds.feed
      (c.feeds.invariant.filled w words a b e) low in
      let end = c.next_feed-end.ensures.feed n.0 n.1 n.3 (ahead_word c.feeds.text n.2 n.0 n.1 c.feeds.feed n.5 n.6) in
      filled_apart c.feeds.text (w ++ filled (length w) words) n.2 n.0 n.1 c.feeds.line c.feeds.feed
      c.next_feed-end.result n.4 n.5 n.6 n.7 n.8 end (omega arith);
}

pub returns : goal.returns
returns c w words a b e =
    filled_all c.feeds.text (w ++ filled (length w) words) c.feeds.line c.feeds.feed
    (c.feeds.invariant.filled w words a b e) (omega arith)
