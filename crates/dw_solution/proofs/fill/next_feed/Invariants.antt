use Rattle.std.proofs.Common.{length, ◌-◌, ◌≡◌, ◌≤◌, ◌++◌, ℕ, List, drop}
use Rattle.dw_solution.specs.inner.Feeds.{feeding, IsUnbroken, IsWordFrom}
use Rattle.dw_solution.proofs.fill.next_feed.Given as goal

abbrev pub invariant-bytes : goal.invariant-bytes
invariant-bytes l = record {
  low : l.from ≤ l.place;
  within : l.place ≤ length l.text;
  word : (w : List ℕ) (words : List (List ℕ)) → IsUnbroken w → drop l.from l.text ≡ w ++ feeding words
      → IsWordFrom l.text l.from l.place w words;
}

abbrev pub decreases-bytes : goal.decreases-bytes
decreases-bytes l = length l.text - l.place
