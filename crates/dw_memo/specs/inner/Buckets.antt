-- A table in which each position has one bucket.
use Rattle.std.specs.Prelude.{◌≡◌, ℕ, ◌*◌, ◌/◌, ◌^◌, ◌≤◌, List, [], ◌∷◌, ◌++◌, length, slice_get, Some}
use Rattle.dw_board.specs.Geometry.{Geometry}
use Rattle.dw_board.specs.inner.Mixing.{mixed_word}
use Rattle.dw_board.specs.Lists.{Member}
use Rattle.dw_board.specs.Placement.{Placement}
use Rattle.dw_memo.specs.Content.{Entry, Content, IsMap}

-- the entries of the buckets, one after another
abbrev pub held : {X : Type 0} → (X → Content) → List X → Content
held entries [] = []
held entries (x ∷ buckets) = entries x ++ held entries buckets

-- the bucket of a position, among so many: its mixed word as a part of 2^64, times their number
abbrev pub bucket_of : Geometry → Placement → ℕ → ℕ
bucket_of g p n = mixed_word g p * n / 2 ^ 64

-- there is a bucket; in each a position stands once, and each entry stands in the bucket of its position
pub record IsTable {X : Type 0} (g : Geometry) (entries : X → Content) (buckets : List X) : Type 0 where
  pub some_bucket : 1 ≤ length buckets
  pub maps : (k : ℕ) (x : X) → slice_get buckets k ≡ Some x → IsMap (entries x)
  pub placed : (k : ℕ) (x : X) (e : Entry) → slice_get buckets k ≡ Some x → Member e (entries x)
      → k ≡ bucket_of g e.position (length buckets)
