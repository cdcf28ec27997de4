-- Laws over the definitions, for every board.
use Rattle.std.specs.Prelude.{◌≡◌, ℕ, ◌+◌, Bool, true, false, Some, ◌↔◌}
use Rattle.dw_board.specs.declared.board.Dir.{Dir}
use Rattle.dw_board.specs.Geometry.{Geometry, IsBoard, OnBoard, row, column, step, is_down, is_right, ShiftsAreSteps}

-- y is the number after x, or the one before it
abbrev pub IsNext : Bool → ℕ → ℕ → Type 0
IsNext true x y = y ≡ x + 1
IsNext false x y = x ≡ y + 1

-- a step leads to the square whose row and column are both one further in its direction
abbrev pub StepsAreDiagonal : Type 0
StepsAreDiagonal = (g : Geometry) → IsBoard g → (s t : ℕ) (d : Dir) → OnBoard g s → OnBoard g t →
    (step g s d ≡ Some t) ↔ (IsNext (is_down d) (row g s) (row g t) × IsNext (is_right d) (column g s) (column g t))

-- a step from a square of the board does not leave it
abbrev pub StepsStay : Type 0
StepsStay = (g : Geometry) → IsBoard g → (s t : ℕ) (d : Dir) → OnBoard g s → step g s d ≡ Some t → OnBoard g t

-- squares in the same row and the same column are the same
abbrev pub PlacesDiffer : Type 0
PlacesDiffer = (g : Geometry) → IsBoard g → (s t : ℕ) → OnBoard g s → OnBoard g t → row g s ≡ row g t
    → column g s ≡ column g t → s ≡ t

-- a step leads from one square to another exactly if it shifts the bit of the one to that of the other
abbrev pub ShiftsStep : Type 0
ShiftsStep = (g : Geometry) → IsBoard g → ShiftsAreSteps g
