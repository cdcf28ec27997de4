-- The text of a remark on an author's solution.
use Rattle.std.specs.Prelude.{◌≡◌, ℕ, Option, Some, None, List, [], ◌∷◌, ◌++◌, codes, decimal}
use Rattle.dw_board.specs.Geometry.{Geometry}
use Rattle.dw_board.specs.Placement.{Placement}
use Rattle.dw_board.specs.Lists.{Member}
use Rattle.dw_moves.specs.Moves.{Move, Legal, play}
use Rattle.dw_notation.specs.Text.{IsMoveText, IsLineText, AreJoined}
use Rattle.dw_verdict.specs.Verdict.{reach}
use Rattle.dw_report.specs.JudgedText.{next_number}
use Rattle.dw_study.specs.Remarks.{Remark, fails, also, leaves_open, ends}

-- a line with a blank before it, or nothing if it has no move
abbrev pub behind_blank : List ℕ → List ℕ
behind_blank [] = []
behind_blank (byte ∷ line) = codes " " ++ byte ∷ line

-- how much is missing after an end: the number of moves within which the attacker wins, or nothing if there is no win
abbrev pub missing_text : Option ℕ → List ℕ
missing_text None = []
missing_text (Some k) = codes ": wins in " ++ decimal k

-- a remark can be written: its moves are legal where they are played
abbrev pub HasTexts : Geometry → Placement → Remark → Type 0
HasTexts g p (fails b m r) = Legal g (reach g p b) m × Legal g (play g (reach g p b) m) r
HasTexts g p (also b keys) = (m : Move) → Member m keys → Legal g (reach g p b) m
HasTexts g p (leaves_open b replies) = (m : Move) → Member m replies → Legal g (reach g p b) m
HasTexts g p (ends b wins_in) = Unit {0}

-- the text of a remark: the beginning, and the moves that are wrong or missing after it, or how many are missing
abbrev pub IsRemarkText : Geometry → Placement → Remark → List ℕ → Type 0
IsRemarkText g p (fails b m r) text = (line : List ℕ) × (move : List ℕ) × (reply : List ℕ) × IsLineText g p b line
    × IsMoveText g (reach g p b) m move × IsMoveText g (play g (reach g p b) m) r reply
    × (text ≡ codes "fails" ++ behind_blank line ++ codes " " ++ decimal (next_number b) ++ codes ". " ++ move
    ++ codes " refuted by " ++ reply ++ codes "\n")
IsRemarkText g p (also b keys) text = (line : List ℕ) × (moves : List ℕ) × IsLineText g p b line
    × AreJoined g (reach g p b) (codes " / ") keys moves
    × (text ≡ codes "also" ++ behind_blank line ++ codes " " ++ decimal (next_number b) ++ codes ". " ++ moves
    ++ codes "\n")
IsRemarkText g p (leaves_open b replies) text = (line : List ℕ) × (moves : List ℕ) × IsLineText g p b line
    × AreJoined g (reach g p b) (codes ", ") replies moves
    × (text ≡ codes "open" ++ behind_blank line ++ codes ": " ++ moves ++ codes "\n")
IsRemarkText g p (ends b wins_in) text = (line : List ℕ) × IsLineText g p b line
    × (text ≡ codes "ends" ++ behind_blank line ++ missing_text wins_in ++ codes "\n")
