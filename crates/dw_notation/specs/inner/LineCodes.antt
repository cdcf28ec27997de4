-- A line from a position as a number.
use Rattle.std.specs.Prelude.{◌≡◌, Bool, true, false, Option, List, refl}
use Rattle.std.specs.Coded.{Coded, code_by, coded×, coded_bool, coded_list, coded_option}
use Rattle.dw_board.specs.declared.piece.Side.{Side}
use Rattle.dw_board.specs.declared.piece.Side.TheVariants.{White, Black}
use Rattle.dw_board.specs.declared.piece.Kind.{Kind}
use Rattle.dw_board.specs.declared.piece.Kind.TheVariants.{Man, King}
use Rattle.dw_board.specs.declared.piece.Piece.{Piece}
use Rattle.dw_board.specs.Placement.{Placement}
use Rattle.dw_moves.specs.Moves.{Move, move_code}
use Rattle.dw_notation.specs.LineTexts.{LineFrom}

-- how a position is stored
abbrev pub is_white : Side → Bool
is_white White = true
is_white Black = false

abbrev pub side_by : Bool → Side
side_by true = White
side_by false = Black

abbrev pub side_back : (s : Side) → side_by (is_white s) ≡ s
side_back White = refl
side_back Black = refl

abbrev pub is_king : Kind → Bool
is_king King = true
is_king Man = false

abbrev pub kind_by : Bool → Kind
kind_by true = King
kind_by false = Man

abbrev pub kind_back : (k : Kind) → kind_by (is_king k) ≡ k
kind_back King = refl
kind_back Man = refl

abbrev pub side_code : Coded Side
side_code = code_by Bool coded_bool is_white side_by side_back

abbrev pub kind_code : Coded Kind
kind_code = code_by Bool coded_bool is_king kind_by kind_back

abbrev pub piece_code : Coded Piece
piece_code = code_by (Side × Kind) (coded× side_code kind_code) (λ p. (p.side, p.kind)) (λ c. record {
  side = c.0;
  kind = c.1;
}) (λ _. refl)

abbrev pub placement_code : Coded Placement
placement_code = code_by (List (Option Piece)
    × Side) (coded× (coded_list (coded_option piece_code)) side_code) (λ p. (
      p.cells,
      p.turn,
    )) (λ c. record { cells = c.0; turn = c.1 }) (λ _. refl)

-- Sealed: how a line from a position is stored, of which no clause says anything.
abbrev pub line_code : Coded LineFrom
line_code =
    code_by (Placement × List Move) (coded× placement_code (coded_list move_code))
    (λ l. (l.start, l.moves)) (λ c. record { start = c.0; moves = c.1 }) (λ _. refl)
