-- How a tree is stored as a value.
use Rattle.std.specs.Prelude.{List, refl}
use Rattle.std.specs.Coded.{Coded, code_by, coded×, coded_list}
use Rattle.dw_board.specs.Placement.{Placement}
use Rattle.dw_moves.specs.Moves.{Move, move_code}
use Rattle.dw_notation.specs.inner.LineCodes.{placement_code}
use Rattle.dw_games.specs.Walk.{PlayedTree}

-- Sealed: how a tree is stored, of which no clause says anything.
abbrev pub tree_code : Coded PlayedTree
tree_code =
    code_by (Placement × List (List Move)) (coded× placement_code (coded_list (coded_list move_code)))
    (λ t. (t.start, t.paths)) (λ c. record { start = c.0; paths = c.1 }) (λ _. refl)
