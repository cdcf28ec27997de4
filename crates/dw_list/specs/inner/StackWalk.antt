-- The effect of a walk over a stack.
use Rattle.std.specs.Prelude.{◌≡◌, Bool, true, false, []}
use Rattle.dw_board.specs.Geometry.{Geometry}
use Rattle.dw_list.specs.declared.walk.Step.{Step}
use Rattle.dw_list.specs.declared.walk.Step.TheVariants.{Over, Given, On}
use Rattle.dw_list.specs.LineStack.{LineStack}
use Rattle.dw_list.specs.StackWalk.{GivesFirst, GivesNone}
use Rattle.dw_list.specs.inner.Steps.{IsStep, IsGiven}

-- the effect of one step of a walk
abbrev pub HasStepped : Geometry → Step → LineStack → LineStack → Type 0
HasStepped g Over old new = (old.levels ≡ []) × (new ≡ old)
HasStepped g Given old new = IsGiven g old new
HasStepped g On old new = IsStep g old new

-- a line is given if there is one
abbrev pub GivesNext : Geometry → Bool → LineStack → LineStack → Type 0
GivesNext g true old new = GivesFirst g old new
GivesNext g false old new = GivesNone g old new
