-- Pieces between open squares, on sets.
use Rattle.std.specs.Prelude.{◌≡◌, ℕ, Some}
use Rattle.dw_board.specs.declared.board.Dir.{Dir}
use Rattle.dw_board.specs.Geometry.{Geometry, step, back, Squares}
use Rattle.dw_moves.specs.Moves.{In}

-- there is a next square in a direction, and it is not in the set
abbrev pub OpenIn : Geometry → Squares → ℕ → Dir → Type 0
OpenIn g v s d = (t : ℕ) × (step g s d ≡ Some t) × (In t v → ⊥)

-- on some diagonal it is so to both sides
abbrev pub ExposedIn : Geometry → Squares → ℕ → Type 0
ExposedIn g v s = (d : Dir) × OpenIn g v s d × OpenIn g v s (back d)
