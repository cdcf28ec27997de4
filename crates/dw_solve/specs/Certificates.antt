-- The certificate of an answer: the memo itself says it.
use Rattle.std.specs.Prelude.{◌≡◌, ℕ, ◌≤◌, ◌⊎◌, Bool, IsTrue}
use Rattle.dw_board.specs.Geometry.{Geometry}
use Rattle.dw_board.specs.Placement.{Placement}
use Rattle.dw_moves.specs.Moves.{Move, Legal, play}
use Rattle.dw_memo.specs.Content.{Content}
use Rattle.dw_solve.specs.Facts.{KnownWin, KnownFail, IsDecided}

-- the memo itself says whether there is a win within n moves
pub record SaysWin (c : Content) (p : Placement) (n : ℕ) (answer : Bool) : Type 0 where
  pub when : IsTrue answer → KnownWin c p n
  pub unless : (IsTrue answer → ⊥) → (n ≡ 0) ⊎ KnownFail c p n

-- for each number of moves from 1 to n the memo says whether there is a win within it
abbrev pub SaysLeast : Content → Placement → ℕ → Type 0
SaysLeast c p n = (k : ℕ) → 1 ≤ k → k ≤ n → IsDecided c p k

-- the memo says that after every reply there is a win within n moves, or that after some reply there is none
pub record SaysLost (g : Geometry) (c : Content) (q : Placement) (n : ℕ) (answer : Bool) : Type 0 where
  pub when : IsTrue answer → (r : Move) → Legal g q r → KnownWin c (play g q r) n
  pub unless : (IsTrue answer → ⊥) → (r : Move) × Legal g q r × ((n ≡ 0) ⊎ KnownFail c (play g q r) n)
