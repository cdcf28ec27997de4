-- A cache that holds entries, as contracts see it.
use Rattle.std.specs.Prelude.{ℕ}
use Rattle.dw_memo.specs.Content.{Content}

-- the entries that it holds, and how many it has lost
pub record Holding : Type 0 where
  pub content : Content
  pub dropped : ℕ
