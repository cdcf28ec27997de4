-- Why a lister refuses to go on after a list of moves.
use Rattle.std.specs.Prelude.{ℕ, List, Result, Ok, Err}
use Rattle.dw_board.specs.Geometry.{Geometry}
use Rattle.dw_board.specs.Placement.{Placement}
use Rattle.dw_moves.specs.Moves.{Move}
use Rattle.dw_list.specs.declared.fault.AfterFault.{AfterFault}
use Rattle.dw_list.specs.declared.fault.AfterFault.TheVariants.{NotALine, Stopped}
use Rattle.dw_list.specs.Places.{IsPlace}

-- the list is no line, and this is its place; or the search was stopped
abbrev pub IsRefusal : Geometry → Placement → ℕ → List Move → AfterFault → Type 0
IsRefusal g p n l (NotALine place) = IsPlace g p n l place
IsRefusal g p n l (Stopped stop) = Unit {0}

-- the number of expansions that may be cut off: none if it is known whether the list is a line
abbrev pub cut_after : {A : Type 0} → Result A AfterFault → ℕ → ℕ
cut_after (Ok answer) n = 0
cut_after (Err (NotALine place)) n = 0
cut_after (Err (Stopped stop)) n = n
