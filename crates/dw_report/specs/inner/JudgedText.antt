-- The text of a verdict and of tries, part by part.
use Rattle.std.specs.Prelude.{◌≡◌, ℕ, ◌-◌, ◌⊎◌, List, []}
use Rattle.dw_board.specs.Geometry.{Geometry}
use Rattle.dw_board.specs.Placement.{Placement}
use Rattle.dw_moves.specs.Moves.{Move, play}
use Rattle.dw_verdict.specs.Verdict.{Verdict, IsVerdict, IsRefutation, Tries}
use Rattle.dw_report.specs.JudgedText.{IsVerdictText, IsTryLine, AreTryLines}

-- the text of one legal move: its line if it is a try, else nothing
abbrev pub IsTryText : Geometry → Placement → ℕ → Move → List ℕ → Type 0
IsTryText g p n m text = ((r : Move) × IsRefutation g (play g p m) (n - 1) r × IsTryLine g p (m, r) text)
    ⊎ (((r : Move) → IsRefutation g (play g p m) (n - 1) r → ⊥) × (text ≡ []))

-- the line of the verdict on a position
abbrev pub IsVerdictLine : Geometry → Placement → ℕ → List ℕ → Type 0
IsVerdictLine g p n line = (verdict : Verdict) × IsVerdict g p n verdict × IsVerdictText g p n verdict line

-- the lines of all tries of a position
abbrev pub AreTriesListed : Geometry → Placement → ℕ → List ℕ → Type 0
AreTriesListed g p n text = (tries : List (Move × Move)) × Tries g p n tries × AreTryLines g p tries text
