-- The texts of the moves that a verdict and the tries name.
use Rattle.std.specs.Prelude.{◌≡◌, ℕ, List, [], ◌∷◌}
use Rattle.dw_board.specs.Geometry.{Geometry}
use Rattle.dw_board.specs.Placement.{Placement}
use Rattle.dw_moves.specs.Moves.{Move, play}
use Rattle.dw_notation.specs.Text.{IsMoveText, IsLineText, AreMoveTexts}
use Rattle.dw_verdict.specs.Verdict.{Keys, reach}

-- the texts of all keys, in order
abbrev pub AreKeyTexts : Geometry → Placement → ℕ → List (List ℕ) → Type 0
AreKeyTexts g p n texts = (keys : List Move) × Keys g p n keys × AreMoveTexts g p keys texts

-- the text of a line, and of the choices after it
abbrev pub AreChoices : Geometry → Placement → (beginning choices : List Move) → List ℕ → List (List ℕ) → Type 0
AreChoices g p beginning choices line texts =
    IsLineText g p beginning line × AreMoveTexts g (reach g p beginning) choices texts

-- the text of each first move, and of the reply to it
abbrev pub AreTryTexts : Geometry → Placement → List (Move × Move) → List (List ℕ × List ℕ) → Type 0
AreTryTexts g p [] texts = texts ≡ []
AreTryTexts g p (t ∷ tries) texts = (move : List ℕ) × (reply : List ℕ) × (rest : List (List ℕ × List ℕ))
    × IsMoveText g p t.0 move × IsMoveText g (play g p t.0) t.1 reply × AreTryTexts g p tries rest
    × (texts ≡ (move, reply) ∷ rest)
