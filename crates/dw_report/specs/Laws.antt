-- Laws of the report, for every board.
use Rattle.std.specs.Prelude.{◌≡◌, ℕ, ◌≤◌, List}
use Rattle.dw_board.specs.Geometry.{Geometry, IsBoard}
use Rattle.dw_notation.specs.Problems.{Numbered}
use Rattle.dw_report.specs.Report.{AreTexts, IsReport}
use Rattle.dw_report.specs.Request.{Request}

-- if at least one line may be listed, each problem has exactly one text, and each byte text exactly one report
pub record OneReport : Type 0 where
  pub texts : (g : Geometry) → IsBoard g → (request : Request) → 1 ≤ request.lines → (problems : List Numbered) →
      (text : List ℕ) × AreTexts g request problems text
  pub some : (g : Geometry) → IsBoard g → (request : Request) → 1 ≤ request.lines → (bytes : List ℕ) →
      (text : List ℕ) × IsReport g request bytes text
  pub only : (g : Geometry) → IsBoard g → (request : Request) (bytes text other : List ℕ) →
      IsReport g request bytes text → IsReport g request bytes other → text ≡ other
