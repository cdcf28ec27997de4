-- A lister's stack as a number.
use Rattle.std.specs.Prelude.{ℕ, Bool, Option, List, refl}
use Rattle.std.specs.Coded.{Coded, code_by, coded×, coded_ℕ, coded_bool, coded_list, coded_option}
use Rattle.dw_board.specs.Placement.{Placement}
use Rattle.dw_moves.specs.Moves.{Move, move_code}
use Rattle.dw_notation.specs.inner.LineCodes.{placement_code}
use Rattle.dw_list.specs.LineStack.{Level, LineStack}

-- how a level and a stack are stored
abbrev pub level_code : Coded Level
level_code =
    code_by (Placement × (Bool × (ℕ × Option (List Move))))
    (coded× placement_code (coded× coded_bool (coded× coded_ℕ (coded_option (coded_list move_code)))))
    (λ f. (f.position, (f.attacks, (f.left, f.ahead)))) (λ c. record {
      position = c.0;
      attacks = c.1.0;
      left = c.1.1.0;
      ahead = c.1.1.1;
    }) (λ _. refl)

abbrev pub line_stack_code : Coded LineStack
line_stack_code =
    code_by (Placement × (ℕ × (List Move × List Level)))
    (coded× placement_code (coded× coded_ℕ (coded× (coded_list move_code) (coded_list level_code))))
    (λ s. (s.position, (s.moves, (s.line, s.levels)))) (λ c. record {
      position = c.0;
      moves = c.1.0;
      line = c.1.1.0;
      levels = c.1.1.1;
    }) (λ _. refl)
