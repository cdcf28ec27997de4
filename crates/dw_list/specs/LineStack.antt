-- A lister's stack, and its lines that are still to come.
use Rattle.std.specs.Prelude.{◌≡◌, ℕ, ◌⊎◌, Bool, Option, Some, None, List, [], ◌∷◌}
use Rattle.dw_board.specs.Geometry.{Geometry}
use Rattle.dw_board.specs.Placement.{Placement}
use Rattle.dw_moves.specs.Moves.{Move}
use Rattle.dw_board.specs.Lists.{Member}
use Rattle.dw_moves.specs.Order.{IsListOf}
use Rattle.dw_solve.specs.Lines.{Line, Before}

-- A position on the way of a line, whether the attacker is to move there and how many moves he has left, and the moves
-- there that are still ahead, in order, once they are listed.
pub record Level : Type 0 where
  pub position : Placement
  pub attacks : Bool
  pub left : ℕ
  pub ahead : Option (List Move)

-- A stack for the lines of a position within n moves: the moves of the line that it stands at, the last one first, and
-- its levels, the last one first. Each level but the last has a move of the line.
pub record LineStack : Type 0 where
  pub position : Placement
  pub moves : ℕ
  pub line : List Move
  pub levels : List Level

-- a list of moves begins with one of these moves
abbrev pub BeginsAmong : List Move → List Move → Type 0
BeginsAmong moves [] = ⊥
BeginsAmong moves (m ∷ l) = Member m moves

-- a list of moves begins with one of these, or is any list if they are not listed yet
abbrev pub IsAhead : Option (List Move) → List Move → Type 0
IsAhead None l = Unit {0}
IsAhead (Some moves) l = BeginsAmong moves l

-- at a level whose move m was played, moves begin with a move ahead, or with m and then go on in one of these ways
abbrev pub IsBehind : Option (List Move) → Move → (List Move → Type 0) → List Move → Type 0
IsBehind ahead m Ways l = IsAhead ahead l ⊎ ((rest : List Move) × (l ≡ m ∷ rest) × Ways rest)

-- a list of moves goes on in one of these ways at the last level, or is in the rest of one of the levels before it
abbrev pub Remains : List Level → List Move → (List Move → Type 0) → List Move → Type 0
Remains [] [] Ways l = Ways l
Remains (f ∷ outer) (m ∷ line) Ways l = Remains outer line (IsBehind f.ahead m Ways) l
Remains [] (m ∷ line) Ways l = ⊥
Remains (f ∷ outer) [] Ways l = ⊥

-- a list of moves is still ahead of a stack
abbrev pub IsStillAhead : List Level → List Move → List Move → Type 0
IsStillAhead [] line l = ⊥
IsStillAhead (f ∷ outer) line l = Remains outer line (IsAhead f.ahead) l

-- these are the lines of a stack that are still to come, in ascending order
abbrev pub AreToCome : Geometry → LineStack → List (List Move) → Type 0
AreToCome g s lines =
    IsListOf (Before g s.position) (λ l. Line g s.position s.moves l × IsStillAhead s.levels s.line l) lines
