-- The parts of the text of a remark on an author's solution, one by one.
use Rattle.std.specs.Prelude.{◌≡◌, ℕ, Option, Some, None, List, [], ◌∷◌}
use Rattle.dw_board.specs.Geometry.{Geometry}
use Rattle.dw_board.specs.Placement.{Placement}
use Rattle.dw_moves.specs.Moves.{Move, play}
use Rattle.dw_notation.specs.Text.{AreMoveTexts, IsLineText, IsMoveText}
use Rattle.dw_verdict.specs.Verdict.{reach}
use Rattle.dw_report.specs.JudgedText.{next_number}
use Rattle.dw_study.specs.Remarks.{Remark, fails, also, leaves_open, ends}

-- the texts of a remark: of the beginning, with the number of the attacker's next move; of the move that fails, or of
-- the moves that are missing; of the reply that refutes; and the number of moves within which the attacker wins after
-- an end
pub record Words : Type 0 where
  pub line : List ℕ
  pub turn : ℕ
  pub moves : List (List ℕ)
  pub refutation : Option (List ℕ)
  pub wins_in : Option ℕ

-- the texts of a beginning and of moves after it, and the number of moves for a win, without a refutation
abbrev pub AreFieldsFor : Geometry → Placement → (beginning moves : List Move) → (wins_in : Option ℕ) → Words → Type 0
AreFieldsFor g p b moves wins_in words = IsLineText g p b words.line × AreMoveTexts g (reach g p b) moves words.moves
    × (words.refutation ≡ None) × (words.wins_in ≡ wins_in) × (words.turn ≡ next_number b)

-- the texts of a remark
abbrev pub AreRemarkFields : Geometry → Placement → Remark → Words → Type 0
AreRemarkFields g p (fails b m r) words = (move : List ℕ) × (reply : List ℕ) × IsLineText g p b words.line
    × IsMoveText g (reach g p b) m move × IsMoveText g (play g (reach g p b) m) r reply
    × (words.moves ≡ move ∷ []) × (words.refutation ≡ Some reply) × (words.wins_in ≡ None)
    × (words.turn ≡ next_number b)
AreRemarkFields g p (also b keys) words = AreFieldsFor g p b keys None words
AreRemarkFields g p (leaves_open b replies) words = AreFieldsFor g p b replies None words
AreRemarkFields g p (ends b wins_in) words = AreFieldsFor g p b [] wins_in words
