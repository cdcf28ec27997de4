-- How far the search for a win goes.
use Rattle.std.specs.Prelude.{◌≡◌, ℕ, Option, Ok}
use Rattle.dw_board.specs.Geometry.{Geometry}
use Rattle.dw_board.specs.Placement.{Placement}
use Rattle.dw_memo.specs.Choice.{content_of, dropped_of}
use Rattle.dw_memo.specs.declared.any_memo.AnyMemo.{AnyMemo}
use Rattle.dw_solve.specs.Solving.{Solving}
use Rattle.dw_study.specs.Telling.{StaysOpen, IsKnownInTime}
use Rattle.dw_study.specs.declared.finding.Finding.{Finding}

-- It began after a number of expansions. If it stays open whether there is a win, as many positions were expanded as
-- the bound says, and no more until it was known.
pub record IsBounded {B : Type 0} (g : Geometry) (p : Placement) (moves : ℕ) (each : Option ℕ) (before : ℕ)
    (after : Solving (AnyMemo B)) (finding : Finding B) : Type 0 where
  pub start : Solving (AnyMemo B)
  pub began : start.expanded ≡ before
  pub stays : StaysOpen content_of p each start after (Ok finding)
  pub known : IsKnownInTime g content_of dropped_of p moves each start after finding
