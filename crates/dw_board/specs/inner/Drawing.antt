-- How the sign of a square is told: by three sets.
use Rattle.std.specs.Prelude.{◌≡◌, ℕ, Bool, true, false, None}
use Rattle.std.specs.FinSet as set
use Rattle.dw_board.specs.Geometry.{Geometry, OnBoard, Squares}
use Rattle.dw_board.specs.Placement.{Placement, at}
use Rattle.dw_board.specs.Diagram.{piece_sign, square_sign}
use Rattle.dw_board.specs.declared.piece.Side.TheVariants.{White, Black}
use Rattle.dw_board.specs.declared.piece.Kind.TheVariants.{Man, King}

-- the sign of a square, by whether a piece stands there, whether it is White's, and whether it is a king
abbrev pub sign_by : Bool → Bool → Bool → ℕ
sign_by false white king = square_sign None
sign_by true true false = piece_sign White Man
sign_by true true true = piece_sign White King
sign_by true false false = piece_sign Black Man
sign_by true false true = piece_sign Black King

-- three sets tell the signs of all squares: those of all pieces, of White's, and of the kings
abbrev pub AreSigns : Geometry → Placement → Squares → Squares → Squares → Type 0
AreSigns g p occupied white kings = (s : ℕ) → OnBoard g s
    → sign_by (set.contains occupied s) (set.contains white s) (set.contains kings s) ≡ square_sign (at p s)
