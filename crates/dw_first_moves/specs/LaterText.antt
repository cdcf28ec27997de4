-- The texts of later wins.
use Rattle.std.specs.Prelude.{◌≡◌, ℕ, List, [], ◌∷◌, ◌++◌, codes, decimal}
use Rattle.dw_board.specs.Geometry.{Geometry}
use Rattle.dw_board.specs.Placement.{Placement}
use Rattle.dw_moves.specs.Moves.{Move}
use Rattle.dw_notation.specs.Text.{IsMoveText}

-- the text of each move, beside its number of moves
abbrev pub AreLaterTexts : Geometry → Placement → List (Move × ℕ) → List (List ℕ × ℕ) → Type 0
AreLaterTexts g p [] texts = texts ≡ []
AreLaterTexts g p (one ∷ later) texts = (move : List ℕ) × (rest : List (List ℕ × ℕ)) × IsMoveText g p one.0 move
    × AreLaterTexts g p later rest × (texts ≡ (move, one.1) ∷ rest)

-- the line of a later win
abbrev pub later_line : List ℕ × ℕ → List ℕ
later_line (move, k) = codes "later " ++ move ++ codes " in " ++ decimal k ++ codes "\n"

-- the lines of later wins
abbrev pub later_lines : List (List ℕ × ℕ) → List ℕ
later_lines [] = []
later_lines (one ∷ texts) = later_line one ++ later_lines texts
