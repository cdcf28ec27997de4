-- The effect of questions on a solver.
use Rattle.std.specs.Prelude.{◌≡◌, ℕ, Result, IsErrOf}
use Rattle.dw_board.specs.Geometry.{Geometry}
use Rattle.dw_memo.specs.Content.{Content, SameEntries}
use Rattle.dw_solve.specs.declared.stop.Stop.{Stop}
use Rattle.dw_solve.specs.declared.stop.Stop.TheVariants.{Limit}
use Rattle.dw_solve.specs.Searching.{IsCounted}
use Rattle.dw_solve.specs.Solving.{Solving}
use Rattle.dw_solve.specs.Work.{Moment, moment, NothingLost, Searched, cut_off}

-- a solver at one time
abbrev pub moment_of : {M : Type 0} → (M → Content) → (M → ℕ) → Solving M → Moment
moment_of content lost s = moment content lost s.memo s.expanded

-- questions about wins within n moves: each expansion is counted, up to the limit, and the memo is as searches
-- leave it
pub record Asked {M A : Type 0} (g : Geometry) (content : M → Content) (lost : M → ℕ) (n : ℕ)
    (old new : Solving M) (answer : Result A Stop) : Type 0 where
  pub count : IsCounted old.expanded old.limit new.expanded new.limit
  pub stop : IsErrOf answer Limit → new.expanded ≡ new.limit
  pub searched : Searched g n (cut_off answer n) (moment_of content lost old) (moment_of content lost new)

-- nothing was expanded, and the memo has the same content
abbrev pub Idle : {M : Type 0} → (M → Content) → Solving M → Solving M → Type 0
Idle content old new = (new.expanded ≡ old.expanded) × SameEntries (content old.memo) (content new.memo)

-- the memo lost nothing
abbrev pub LostNothing : {M : Type 0} → (M → Content) → (M → ℕ) → Solving M → Solving M → Type 0
LostNothing content lost old new = NothingLost (moment_of content lost old) (moment_of content lost new)
