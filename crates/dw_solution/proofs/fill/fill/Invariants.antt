use Rattle.std.proofs.Common.{length, ◌-◌, ◌≡◌, ◌≤◌, ◌++◌, ℕ, List}
use Rattle.dw_solution.specs.Movetext.{filled}
use Rattle.dw_solution.specs.inner.Feeds.{feeding, IsUnbroken, AreUnbroken, IsFilledTo}
use Rattle.dw_solution.proofs.fill.fill.Given as goal

abbrev pub invariant-feeds : goal.invariant-feeds
invariant-feeds l = record {
  begun : l.line ≤ l.feed;
  within : l.feed ≤ length l.text;
  filled : (w : List ℕ) (words : List (List ℕ)) → IsUnbroken w → AreUnbroken words
      → l.initial.text ≡ w ++ feeding words → IsFilledTo l.text (w ++ filled (length w) words) l.line l.feed;
}

abbrev pub decreases-feeds : goal.decreases-feeds
decreases-feeds l = length l.initial.text - l.feed
