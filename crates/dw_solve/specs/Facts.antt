-- The bounds in a cache as facts, and when they are right.
use Rattle.std.specs.Prelude.{◌≡◌, ℕ, ◌-◌, ◌<◌, ◌≤◌, ◌⊎◌, Some}
use Rattle.dw_board.specs.Geometry.{Geometry}
use Rattle.dw_board.specs.Placement.{Placement}
use Rattle.dw_moves.specs.Moves.{Move, Legal, play}
use Rattle.dw_memo.specs.Content.{Entry, Content}
use Rattle.dw_board.specs.Lists.{Member}
use Rattle.dw_solve.specs.Wins.{Win}

-- the cache says that the position has no win within f moves
pub record KnownFail (c : Content) (p : Placement) (f : ℕ) : Type 0 where
  pub entry : Entry
  pub held : Member entry c
  pub about : entry.position ≡ p
  pub bound : ℕ
  pub is : entry.bounds.fails ≡ Some bound
  pub enough : f ≤ bound

-- the cache says that the position has a win within w moves
pub record KnownWin (c : Content) (p : Placement) (w : ℕ) : Type 0 where
  pub entry : Entry
  pub held : Member entry c
  pub about : entry.position ≡ p
  pub bound : ℕ
  pub is : entry.bounds.wins ≡ Some bound
  pub enough : bound ≤ w

-- the cache decides whether there is a win within n moves
abbrev pub IsDecided : Content → Placement → ℕ → Type 0
IsDecided c p n = KnownWin c p n ⊎ KnownFail c p n

-- after each legal reply the cache decides whether there is a win within n moves, unless n is 0
abbrev pub RepliesAreDecided : Geometry → Content → Placement → ℕ → Type 0
RepliesAreDecided g c q n = (r : Move) → Legal g q r → (n ≡ 0) ⊎ IsDecided c (play g q r) n

-- every fact of the cache is true
pub record AreTrue (g : Geometry) (c : Content) : Type 0 where
  pub fails : (p : Placement) (f : ℕ) → KnownFail c p f → Win g p f → ⊥
  pub wins : (p : Placement) (w : ℕ) → KnownWin c p w → Win g p w

-- Each bound follows from others in one move and its replies: a win in w has a move after whose every reply there is
-- one in w - 1, and if there is none in f, each move has a reply after which there is none in f - 1.
pub record IsClosed (g : Geometry) (c : Content) : Type 0 where
  pub wins : (e : Entry) → Member e c → (w : ℕ) → e.bounds.wins ≡ Some w →
      (1 ≤ w) × (m : Move) × Legal g e.position m ×
      ((r : Move) → Legal g (play g e.position m) r → KnownWin c (play g (play g e.position m) r) (w - 1))
  pub fails : (e : Entry) → Member e c → (f : ℕ) → e.bounds.fails ≡ Some f → 0 < f →
      (m : Move) → Legal g e.position m →
      (r : Move) × Legal g (play g e.position m) r × ((f ≡ 1) ⊎ KnownFail c (play g (play g e.position m) r) (f - 1))
