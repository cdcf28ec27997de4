-- The problems of a text, as they are computed byte by byte, and a problem as it is handed out.
use Rattle.std.specs.Prelude.{ℕ, List, [], ◌∷◌, Bool, true, Option, Some, None}
use Rattle.dw_board.specs.Geometry.{Geometry}
use Rattle.dw_notation.specs.TextLines.{Found}
use Rattle.dw_notation.specs.Problems.{Numbered, numbered}
use Rattle.dw_notation.specs.inner.Ahead.{found_from}
use Rattle.dw_notation.specs.inner.Sections.{bare, sections_found}
use Rattle.dw_notation.specs.declared.problems.Problem.{Problem}
use Rattle.dw_notation.specs.declared.problems.Form.{Form}
use Rattle.dw_notation.specs.declared.problems.Form.TheVariants.{Fens, Pdn}
use Rattle.dw_notation.specs.declared.problems.pdn.automaton.State.TheVariants.{Outside}

-- the problems of a text, by its form; if more bytes may come, only those that have ended in it
abbrev pub found_of : Bool → Geometry → Form → List ℕ → List Found
found_of over g Fens bytes = found_from over g true [] bytes
found_of over g Pdn bytes = sections_found over g Outside bare bytes

-- the problem handed out, if there is one
abbrev pub numbered_in : {B : Type 0} → Option (Problem B) → List Numbered
numbered_in None = []
numbered_in (Some problem) = numbered problem ∷ []
