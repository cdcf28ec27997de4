-- How first lines are stored as a value.
use Rattle.std.specs.Prelude.{Bool, List, refl}
use Rattle.std.specs.Coded.{Coded, code_by, coded×, coded_bool}
use Rattle.dw_board.specs.Placement.{Placement}
use Rattle.dw_moves.specs.Moves.{Move}
use Rattle.dw_notation.specs.inner.LineCodes.{placement_code}
use Rattle.dw_solution.specs.FirstLines.{LinesFrom}
use Rattle.dw_solution.specs.inner.LineTreeCodes.{lines_code}

-- Sealed: how first lines are stored, of which no clause says anything.
abbrev pub first_lines_code : Coded LinesFrom
first_lines_code =
    code_by (Placement × (List (List Move) × Bool)) (coded× placement_code (coded× lines_code coded_bool))
    (λ l. (l.start, (l.lines, l.more))) (λ c. record { start = c.0; lines = c.1.0; more = c.1.1 }) (λ _. refl)
