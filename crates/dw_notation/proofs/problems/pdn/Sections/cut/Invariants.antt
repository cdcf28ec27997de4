use Rattle.std.proofs.Common.{◌≡◌, ◌≤◌, ◌-◌, ℕ, List, ◌++◌, Bool, length, take}
use Rattle.dw_board.specs.Geometry.{Geometry}
use Rattle.dw_notation.specs.inner.HeldSection.{sections_ahead}
use Rattle.dw_notation.proofs.problems.pdn.Sections.cut.Given as goal

abbrev pub invariant-bytes : goal.invariant-bytes
invariant-bytes l = record {
  within : l.at ≤ length l.bytes;
  same : (g : Geometry) (at_end : Bool) (more : List ℕ)
      → sections_ahead at_end g l.initial.self (take l.at l.bytes ++ more) ≡ sections_ahead at_end g l.self more;
}

abbrev pub decreases-bytes : goal.decreases-bytes
decreases-bytes l = length l.bytes - l.at
