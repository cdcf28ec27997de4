-- Slides: the squares of a set go on along a diagonal, as far as nothing bars the way.
use Rattle.std.specs.Prelude.{◌≡◌, ℕ, Some, IsTrue}
use Rattle.std.proofs.Common.{zero, suc}
use Rattle.std.specs.FinSet as set
use Rattle.dw_board.specs.declared.board.Dir.{Dir}
use Rattle.dw_board.specs.Geometry.{Geometry, step, Squares}

-- n steps lead from a square of a set to t, none of them onto a barred square
abbrev pub SlidesTo : Geometry → Squares → Squares → Dir → ℕ → ℕ → Type 0
SlidesTo g from barred d zero t = IsTrue (set.contains from t)
SlidesTo g from barred d (suc n) t =
    (s : ℕ) × SlidesTo g from barred d n s × (step g s d ≡ Some t) × (IsTrue (set.contains barred t) → ⊥)
