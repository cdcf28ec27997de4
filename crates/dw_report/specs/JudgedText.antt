-- The text of a verdict and of tries.
use Rattle.std.specs.Prelude.{◌≡◌, ℕ, ◌+◌, ◌/◌, List, [], ◌∷◌, ◌++◌, length, codes, decimal}
use Rattle.dw_board.specs.Geometry.{Geometry}
use Rattle.dw_board.specs.Placement.{Placement}
use Rattle.dw_moves.specs.Moves.{Move, play}
use Rattle.dw_notation.specs.Text.{IsMoveText, IsLineText, AreJoined}
use Rattle.dw_verdict.specs.Verdict.{Verdict, unsolvable, cooked, dual, sound, IsVerdict, Tries, reach}

-- the number of the attacker's next move, after a beginning in which each of his moves has its reply
abbrev pub next_number : List Move → ℕ
next_number beginning = length beginning / 2 + 1

-- the line of a verdict
abbrev pub IsVerdictText : Geometry → Placement → ℕ → Verdict → List ℕ → Type 0
IsVerdictText g p n unsolvable text = text ≡ codes "unsolvable in " ++ decimal n ++ codes "\n"
IsVerdictText g p n (cooked shortest keys) text = (moves : List ℕ) × AreJoined g p (codes ", ") keys moves
    × (text ≡ codes "cooked in " ++ decimal n ++ codes ", shortest " ++ decimal shortest ++ codes ": " ++ moves
    ++ codes "\n")
IsVerdictText g p n (dual beginning choices) text = (line : List ℕ) × (moves : List ℕ) × IsLineText g p beginning line
    × AreJoined g (reach g p beginning) (codes " / ") choices moves
    × (text ≡ codes "dual in " ++ decimal n ++ codes ": " ++ line ++ codes " " ++ decimal (next_number beginning)
    ++ codes ". " ++ moves ++ codes "\n")
IsVerdictText g p n (sound key) text = (move : List ℕ) × IsMoveText g p key move
    × (text ≡ codes "sound in " ++ decimal n ++ codes ": " ++ move ++ codes "\n")

-- the line of a try: its move, and the reply that refutes it
abbrev pub IsTryLine : Geometry → Placement → Move × Move → List ℕ → Type 0
IsTryLine g p t line = (move : List ℕ) × (reply : List ℕ) × IsMoveText g p t.0 move
    × IsMoveText g (play g p t.0) t.1 reply
    × (line ≡ codes "try " ++ move ++ codes " refuted by " ++ reply ++ codes "\n")

-- tries, each in its line
abbrev pub AreTryLines : Geometry → Placement → List (Move × Move) → List ℕ → Type 0
AreTryLines g p [] text = text ≡ []
AreTryLines g p (t ∷ tries) text = (line : List ℕ) × (rest : List ℕ) × IsTryLine g p t line × AreTryLines g p tries rest
    × (text ≡ line ++ rest)

-- the one verdict on a position in its line, and then all tries
abbrev pub IsJudgedText : Geometry → Placement → ℕ → List ℕ → Type 0
IsJudgedText g p n text = (line : List ℕ) × (lines : List ℕ)
    × ((verdict : Verdict) × IsVerdict g p n verdict × IsVerdictText g p n verdict line)
    × ((tries : List (Move × Move)) × Tries g p n tries × AreTryLines g p tries lines) × (text ≡ line ++ lines)
