-- A beginning with the position after it and its text.
use Rattle.std.specs.Prelude.{◌≡◌, ℕ, List}
use Rattle.std.specs.String.{string_bytes}
use Rattle.dw_board.specs.Geometry.{Geometry}
use Rattle.dw_board.specs.Placement.{Placement}
use Rattle.dw_moves.specs.Moves.{Move}
use Rattle.dw_notation.specs.Text.{IsLineText}
use Rattle.dw_verdict.specs.Verdict.{reach}
use Rattle.dw_study.specs.declared.beginning.Beginning.{Beginning}

-- these are the moves, the position that they lead to from p, and their text
pub record IsBegun {B : Type 0} (g : Geometry) (p : Placement) (b : List Move) (beginning : Beginning B) : Type 0 where
  pub moves : beginning.moves.items ≡ b
  pub position : beginning.position ≡ reach g p b
  pub line : List ℕ
  pub written : IsLineText g p b line
  pub same : string_bytes beginning.line ≡ line
