-- The text of a finding.
use Rattle.std.specs.Prelude.{◌≡◌, ℕ, List, ◌++◌, codes, decimal}
use Rattle.dw_board.specs.Geometry.{Geometry}
use Rattle.dw_board.specs.Placement.{Placement}
use Rattle.dw_report.specs.JudgedText.{IsJudgedText}
use Rattle.dw_study.specs.Finding.{Finding, judged, undecided}

-- the text of a finding: the verdict and the tries at the number of moves, or a number of moves that has no win
abbrev pub IsFoundText : Geometry → Placement → Finding → List ℕ → Type 0
IsFoundText g p (judged k verdict tries) text = IsJudgedText g p k text
IsFoundText g p (undecided k) text = text ≡ codes "undecided, no win in " ++ decimal k ++ codes "\n"
