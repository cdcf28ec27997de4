-- The text of first moves.
use Rattle.std.specs.Prelude.{◌≡◌, ℕ, Bool, true, false, List, [], ◌∷◌, ◌++◌, length, codes, decimal}
use Rattle.std.specs.List.{count_by}
use Rattle.dw_board.specs.Geometry.{Geometry}
use Rattle.dw_board.specs.Placement.{Placement}
use Rattle.dw_moves.specs.Moves.{Move, play}
use Rattle.dw_notation.specs.Text.{IsMoveText, AreJoined}
use Rattle.dw_first_moves.specs.FirstMoves.{Effect, wins_in, refuted_by}

-- the effect of a first move, in words
abbrev pub IsEffectText : Geometry → Placement → Move → Effect → List ℕ → Type 0
IsEffectText g p m (wins_in k) text = text ≡ codes " wins in " ++ decimal k
IsEffectText g p m (refuted_by replies) text = (joined : List ℕ) × AreJoined g (play g p m) (codes ", ") replies joined
    × (text ≡ codes " refuted by " ++ joined)

-- the line of a first move: its text, and its effect
abbrev pub IsEffectLine : Geometry → Placement → Move × Effect → List ℕ → Type 0
IsEffectLine g p one line = (move : List ℕ) × (text : List ℕ) × IsMoveText g p one.0 move
    × IsEffectText g p one.0 one.1 text × (line ≡ move ++ text ++ codes "\n")

-- the lines of first moves
abbrev pub AreEffectLines : Geometry → Placement → List (Move × Effect) → List ℕ → Type 0
AreEffectLines g p [] lines = lines ≡ []
AreEffectLines g p (one ∷ done) lines = (line : List ℕ) × (rest : List ℕ) × IsEffectLine g p one line
    × AreEffectLines g p done rest × (lines ≡ line ++ rest)

-- whether a first move wins
abbrev pub is_win : Move × Effect → Bool
is_win (m, wins_in k) = true
is_win (m, refuted_by replies) = false

-- how many first moves win
abbrev pub wins_among : List (Move × Effect) → ℕ
wins_among done = count_by is_win done

-- the last line: how many first moves win, of how many
abbrev pub count_line : List (Move × Effect) → List ℕ
count_line done = decimal (wins_among done) ++ codes " of " ++ decimal (length done) ++ codes " win\n"

-- the text of first moves: their lines, and the last one
abbrev pub IsFirstMovesText : Geometry → Placement → List (Move × Effect) → List ℕ → Type 0
IsFirstMovesText g p done text =
    (lines : List ℕ) × AreEffectLines g p done lines × (text ≡ lines ++ count_line done)
