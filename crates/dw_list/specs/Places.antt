-- Lists of moves among the lines: the lines after one, and the place where a list that is no line leaves them.
use Rattle.std.specs.Prelude.{◌≡◌, ℕ, ◌+◌, ◌<◌, ◌≤◌, ◌⊎◌, List, [], ◌∷◌, ◌++◌, length, take}
use Rattle.dw_board.specs.Geometry.{Geometry}
use Rattle.dw_board.specs.Placement.{Placement}
use Rattle.dw_moves.specs.Moves.{Move}
use Rattle.dw_solve.specs.Lines.{Line}

-- among these lines, `rest` are those after the line l
abbrev pub After : List (List Move) → List Move → List (List Move) → Type 0
After lines l rest = (earlier : List (List Move)) × (lines ≡ earlier ++ l ∷ rest)

-- some line begins with these moves
abbrev pub Begins : Geometry → Placement → ℕ → List Move → Type 0
Begins g p n l = (rest : List Move) × Line g p n (l ++ rest)

-- the place of the fault in a list that is no line: its first move that continues no line, else one past its end
pub data IsPlace (g : Geometry) (p : Placement) (n : ℕ) (l : List Move) : ℕ → Type 0 where
  lacks : (Line g p n l → ⊥) → (l ≡ []) ⊎ Begins g p n l → IsPlace g p n l (length l + 1)
  leaves : {place : ℕ} → 1 ≤ place → (Begins g p n (take place l) → ⊥)
      → ((j : ℕ) → 1 ≤ j → j < place → Begins g p n (take j l)) → IsPlace g p n l place
