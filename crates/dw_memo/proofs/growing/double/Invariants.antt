use Rattle.std.proofs.Common.{◌≤◌, ℕ, List}
use Rattle.dw_board.specs.Geometry.{Geometry}
use Rattle.dw_memo.specs.Content.{Content}
use Rattle.dw_memo.specs.inner.Growing.{IsHalfway}
use Rattle.dw_memo.proofs.growing.double.Given as goal

-- so many buckets are still to be split
pub record IsGoing {X : Type 0} (g : Geometry) (entries : X → Content) (size left : ℕ) (old now : List X)
    : Type 0 where
  pub within : left ≤ size
  pub halfway : IsHalfway g entries size left old now

abbrev pub invariant-buckets : goal.invariant-buckets
invariant-buckets g l = IsGoing g.B.Board.geometry g.T.Bucket.entries l.size l.left l.fn.buckets.items l.buckets.items

abbrev pub decreases-buckets : goal.decreases-buckets
decreases-buckets g l = l.left
