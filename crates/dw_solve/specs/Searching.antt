-- The counts of a search.
use Rattle.std.specs.Prelude.{◌≡◌, ℕ, ◌≤◌}

-- A search counts the positions that it expands: the count never falls and never passes the limit, which stays.
pub record IsCounted (before limit after limit' : ℕ) : Type 0 where
  pub rises : before ≤ after
  pub within : after ≤ limit
  pub same : limit' ≡ limit
