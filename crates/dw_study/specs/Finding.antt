-- The number of moves at which a position is judged, and the verdict at it.
use Rattle.std.specs.Prelude.{◌≡◌, ℕ, ◌<◌, ◌⊎◌, Bool, List, MatchBool, Some, None}
use Rattle.dw_board.specs.Geometry.{Geometry}
use Rattle.dw_board.specs.Placement.{Placement}
use Rattle.dw_moves.specs.Moves.{Move}
use Rattle.dw_solve.specs.Wins.{Win}
use Rattle.dw_solve.specs.Solving.{IsLeast}
use Rattle.dw_verdict.specs.Verdict.{Verdict, IsVerdict, Tries}

-- the least number of moves up to `most` within which there is a win, or `most` itself if there is none
abbrev pub IsJudgedAt : Geometry → Placement → ℕ → ℕ → Type 0
IsJudgedAt g p most k = IsLeast g p most (Some k) ⊎ (IsLeast g p most None × (k ≡ most))

-- the number of moves at which a position is judged: the least up to the given number, or exactly that number
abbrev pub IsNumberFor : Geometry → Placement → (is_least : Bool) → (moves n : ℕ) → Type 0
IsNumberFor g p is_least moves n = MatchBool is_least (IsJudgedAt g p moves n) (n ≡ moves)

pub data Finding : Type 0 where
  judged : (moves : ℕ) (verdict : Verdict) (tries : List (Move × Move)) → Finding
  undecided : (no_win_in : ℕ) → Finding

-- a finding is right: the number of moves, the verdict and the tries at it; or, if it stays open whether there is a
-- win, that there is none within some lower number of moves
abbrev pub IsFinding : Geometry → Placement → (is_least : Bool) → (moves : ℕ) → Finding → Type 0
IsFinding g p is_least moves (judged k verdict tries) =
    IsNumberFor g p is_least moves k × IsVerdict g p k verdict × Tries g p k tries
IsFinding g p is_least moves (undecided k) = (k < moves) × (Win g p k → ⊥)
