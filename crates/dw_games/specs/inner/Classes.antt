-- The bytes of each class, and the signs of each kind.
use Rattle.std.specs.Prelude.{ℕ, Bool, false, List, [], ◌∷◌}
use Rattle.dw_board.specs.FenTokens.{is_blank, is_digit}
use Rattle.dw_notation.specs.Tags.{is_space}
use Rattle.dw_games.specs.Signs.{crosses, marks, width, written_width}
use Rattle.dw_games.specs.Tokens.{is_between, is_dot, is_inside, is_in_line}
use Rattle.dw_games.specs.declared.class.Class.{Class}
use Rattle.dw_games.specs.declared.class.Class.TheVariants.{Blank, Digit, Dot, Inside, InLine, Space}
use Rattle.dw_games.specs.declared.signs.Signs.{Signs}
use Rattle.dw_games.specs.declared.signs.Signs.TheVariants.{Mark, Cross, Written}

-- whether a byte is of a class
abbrev pub test_of : Class → ℕ → Bool
test_of Blank = is_blank
test_of Digit = is_digit
test_of Dot = is_dot
test_of Inside = is_inside
test_of InLine = is_in_line
test_of Space = is_space

-- how many bytes the sign of a kind at the front of a text has
abbrev pub width_of : Signs → List ℕ → ℕ
width_of Mark = width marks
width_of Cross = width crosses
width_of Written = written_width

-- whether bytes begin with one that stands between tokens
abbrev pub begins_between : List ℕ → Bool
begins_between [] = false
begins_between (byte ∷ bytes) = is_between byte bytes
