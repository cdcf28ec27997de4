-- How the least number of moves is looked for.
use Rattle.std.specs.Prelude.{◌≡◌, ℕ, ◌+◌, ◌<◌, ◌≤◌, min, Result, Ok, Err, Option, Some, None}
use Rattle.dw_board.specs.Geometry.{Geometry}
use Rattle.dw_board.specs.Placement.{Placement}
use Rattle.dw_memo.specs.Content.{Content}
use Rattle.dw_solve.specs.Wins.{Win}
use Rattle.dw_solve.specs.declared.stop.Stop.TheVariants.{Limit}
use Rattle.dw_solve.specs.Searching.{IsCounted}
use Rattle.dw_solve.specs.Solving.{Solving}
use Rattle.dw_solve.specs.Questions.{moment_of}
use Rattle.dw_solve.specs.Work.{Searched, cut_off}
use Rattle.dw_study.specs.declared.least.Cut.{Cut}
use Rattle.dw_study.specs.Finding.{IsJudgedAt}

-- the number was found, or it was found that there is no win within some lower number of moves
abbrev pub IsLooked : Geometry → Placement → ℕ → Result ℕ Cut → Type 0
IsLooked g p most (Ok k) = (1 ≤ k) × (k ≤ most) × IsJudgedAt g p most k
IsLooked g p most (Err cut) = (cut.no_win_in < most) × (Win g p cut.no_win_in → ⊥)

-- the limit of a search that has a bound on its expansions, or none
abbrev pub lowered : (each : Option ℕ) → (limit expanded : ℕ) → ℕ
lowered None limit expanded = limit
lowered (Some bound) limit expanded = min limit (expanded + bound)

-- the most moves within which a win was looked for: the number that was found, or one more than the moves known to be
-- too few
abbrev pub reached : Result ℕ Cut → ℕ
reached (Ok k) = k
reached (Err cut) = cut.no_win_in + 1

-- if the limit is why the search stopped, it was met
abbrev pub StopsAt : ℕ → ℕ → Result ℕ Cut → Type 0
StopsAt limit expanded (Ok k) = Unit {0}
StopsAt limit expanded (Err cut) = cut.stop ≡ Limit → expanded ≡ limit

-- Searches for the least number of moves: each expansion is counted, up to a limit that may be lower than the solver's
-- own; no win is looked for within more moves than the answer tells.
pub record LooksFor {M : Type 0} (g : Geometry) (content : M → Content) (lost : M → ℕ) (limit : ℕ) (old new : Solving M)
    (answer : Result ℕ Cut) : Type 0 where
  pub count : IsCounted old.expanded old.limit new.expanded new.limit
  pub few : new.expanded ≤ limit
  pub stop : StopsAt limit new.expanded answer
  pub searched : Searched g (reached answer) (cut_off answer (reached answer)) (moment_of content lost old)
      (moment_of content lost new)
