-- The row of JSON of `moves` for a problem.
use Rattle.std.specs.Prelude.{◌≡◌, ℕ, List, [], ◌∷◌, codes}
use Rattle.json.specs.Json.{string}
use Rattle.dw_board.specs.FenText.{written}
use Rattle.dw_board.specs.Geometry.{Geometry}
use Rattle.dw_board.specs.Placement.{Placement}
use Rattle.dw_first_moves.specs.FirstMoves.{Effect, wins_in, refuted_by}
use Rattle.dw_first_moves.specs.FirstMovesText.{wins_among}
use Rattle.dw_json.specs.Rows.{AreObjects, Member, count, objects, row, texts}
use Rattle.dw_moves.specs.Moves.{Move, play}
use Rattle.dw_notation.specs.Text.{AreMoveTexts, IsMoveText}

-- the effect of a first move: in how many moves it wins, or which replies refute it
abbrev pub IsEffectMember : Geometry → Placement → Move → Effect → Member → Type 0
IsEffectMember g p m (wins_in k) one = one ≡ (codes "wins_in", count k)
IsEffectMember g p m (refuted_by replies) one =
    (all : List (List ℕ)) × AreMoveTexts g (play g p m) replies all × (one ≡ (codes "refuted_by", texts all))

-- the members of a first move: its text, the position after it, and its effect
abbrev pub IsFirstMoveObject : Geometry → Placement → Move × Effect → List Member → Type 0
IsFirstMoveObject g p one members = (move : List ℕ) × (effect : Member) × IsMoveText g p one.0 move
    × IsEffectMember g p one.0 one.1 effect
    × (members ≡ (codes "move", string move) ∷ (codes "fen", string (written g (play g p one.0))) ∷ effect ∷ [])

-- the row of a position and of the effects of its first moves within n moves
abbrev pub IsFirstMovesRow : Geometry → (problem : ℕ) → Placement → (n : ℕ) → List (Move × Effect) → List ℕ → Type 0
IsFirstMovesRow g problem p n done text =
    (each : List (List Member)) × AreObjects (IsFirstMoveObject g p) done each
    × (text ≡ row ((codes "problem", count problem) ∷ (codes "fen", string (written g p)) ∷ (codes "n", count n)
    ∷ (codes "winning", count (wins_among done)) ∷ (codes "moves", objects each) ∷ []))
