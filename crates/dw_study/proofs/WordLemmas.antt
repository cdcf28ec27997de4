-- The texts of a move that fails.
use Rattle.std.proofs.Common.{◌≡◌, ℕ, List, [], ◌∷◌, sym, ap, ◌∙◌, subst}
use Rattle.dw_board.specs.Geometry.{Geometry}
use Rattle.dw_board.specs.Placement.{Placement}
use Rattle.std.proofs.Common.{Some, None}
use Rattle.dw_moves.specs.Moves.{Move, play}
use Rattle.dw_notation.specs.Text.{IsLineText, IsMoveText}
use Rattle.dw_study.specs.RemarkFields.{AreRemarkFields, Words}
use Rattle.dw_study.specs.Remarks.{fails}
use Rattle.dw_report.specs.JudgedText.{next_number}
use Rattle.dw_verdict.specs.Verdict.{reach}

-- the texts of a move that fails
pub fails_said : (g : Geometry) (p q then : Placement) (b : List Move) (m r : Move) (line move reply : List ℕ)
    (words : Words) → IsLineText g p b line → words.line ≡ line → q ≡ reach g p b → then ≡ play g q m
    → IsMoveText g q m move → IsMoveText g then r reply → words.moves ≡ move ∷ [] → words.refutation ≡ Some reply
    → words.wins_in ≡ None → words.turn ≡ next_number b → AreRemarkFields g p (fails b m r) words
fails_said g p q then b m r line move reply words written same there played is answers moves refutes none turn = (
  move,
  reply,
  subst (IsLineText g p b) (sym same) written,
  subst (λ z. IsMoveText g z m move) there is,
  subst (λ z. IsMoveText g z r reply) (played ∙ ap (λ z. play g z m) there) answers,
  moves,
  refutes,
  none,
  turn,
)
