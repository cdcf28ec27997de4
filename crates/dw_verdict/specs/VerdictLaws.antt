-- Laws of verdicts and tries, for every board.
use Rattle.std.specs.Prelude.{◌≡◌, ℕ, List}
use Rattle.dw_board.specs.Geometry.{Geometry, IsBoard}
use Rattle.dw_board.specs.Placement.{Placement}
use Rattle.dw_moves.specs.Moves.{Move}
use Rattle.dw_verdict.specs.Verdict.{Verdict, IsVerdict, Tries}

-- each problem has a verdict, and only one
pub record OneVerdict : Type 0 where
  pub some : (g : Geometry) → IsBoard g → (p : Placement) (n : ℕ) → (v : Verdict) × IsVerdict g p n v
  pub only : (g : Geometry) → IsBoard g → (p : Placement) (n : ℕ) (v w : Verdict) →
      IsVerdict g p n v → IsVerdict g p n w → v ≡ w

-- each problem has a list of its tries, and only one
pub record TriesAreListed : Type 0 where
  pub some : (g : Geometry) → IsBoard g → (p : Placement) (n : ℕ) → (tries : List (Move × Move)) × Tries g p n tries
  pub only : (g : Geometry) → IsBoard g → (p : Placement) (n : ℕ) (tries others : List (Move × Move)) →
      Tries g p n tries → Tries g p n others → tries ≡ others
