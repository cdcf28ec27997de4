-- A table of buckets while it doubles.
use Rattle.std.specs.Prelude.{◌≡◌, ◌≢◌, ℕ, ◌+◌, ◌*◌, ◌≤◌, ◌<◌, ◌⊎◌, List, [], ◌++◌, length, slice_get, slice_set, Some}
use Rattle.dw_board.specs.Geometry.{Geometry}
use Rattle.dw_board.specs.Lists.{Member}
use Rattle.dw_memo.specs.Content.{Entry, Content, IsMap}
use Rattle.dw_memo.specs.inner.Buckets.{bucket_of}

-- this number of empty buckets was added after the old ones
pub record IsWidened {X : Type 0} (entries : X → Content) (count : ℕ) (old new : List X) : Type 0 where
  pub more : List X
  pub is : new ≡ old ++ more
  pub all : length more ≡ count
  pub empty : (k : ℕ) (x : X) → slice_get more k ≡ Some x → entries x ≡ []

-- of this number of buckets the first ones, up to a count, are empty
pub record IsEmptied {X : Type 0} (entries : X → Content) (size count : ℕ) (buckets : List X) : Type 0 where
  pub all : length buckets ≡ size
  pub empty : (k : ℕ) (x : X) → k < count → slice_get buckets k ≡ Some x → entries x ≡ []

-- The entries of one bucket, split in two: those of bucket k among n buckets, and the others.
pub record IsSplit (g : Geometry) (n k : ℕ) (all low high : Content) : Type 0 where
  pub low_map : IsMap low
  pub high_map : IsMap high
  pub low_are : (e : Entry) → Member e low → Member e all × (bucket_of g e.position n ≡ k)
  pub high_are : (e : Entry) → Member e high → Member e all × (bucket_of g e.position n ≢ k)
  pub each : (e : Entry) → Member e all → Member e low ⊎ Member e high

-- one bucket was split into the two that take its place among twice as many
pub record IsSplitAt {X : Type 0} (g : Geometry) (entries : X → Content) (size k : ℕ) (old new : List X)
    : Type 0 where
  pub bucket : X
  pub low : X
  pub high : X
  pub stood : slice_get old k ≡ Some bucket
  pub parts : IsSplit g (2 * size) (2 * k) (entries bucket) (entries low) (entries high)
  pub is : new ≡ slice_set (slice_set old (2 * k) low) (2 * k + 1) high

-- There are twice as many buckets as before. Those before a bucket are as they were; each from it on has been split
-- into two.
pub record IsHalfway {X : Type 0} (g : Geometry) (entries : X → Content) (size left : ℕ) (old new : List X)
    : Type 0 where
  pub all : length new ≡ 2 * size
  pub before : (k : ℕ) (x : X) → k < left → slice_get old k ≡ Some x → slice_get new k ≡ Some x
  pub after : (k : ℕ) (x low high : X) → left ≤ k → slice_get old k ≡ Some x → slice_get new (2 * k) ≡ Some low
      → slice_get new (2 * k + 1) ≡ Some high
      → IsSplit g (2 * size) (2 * k) (entries x) (entries low) (entries high)
