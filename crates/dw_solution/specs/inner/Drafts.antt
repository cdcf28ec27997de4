-- The texts of first lines.
use Rattle.std.specs.Prelude.{ℕ, ◌<◌, List, length}
use Rattle.dw_board.specs.Geometry.{Geometry}
use Rattle.dw_solution.specs.Movetext.{IsTextOfFirst}
use Rattle.dw_solution.specs.declared.movetext.Draft.{Draft}
use Rattle.dw_solution.specs.declared.movetext.TheConstants.{MAX_WRITTEN}

-- the text of the first lines of this number
abbrev pub IsDraftOf : {B : Type 0} → Geometry → Draft B → ℕ → List ℕ → Type 0
IsDraftOf g draft many text = IsTextOfFirst g draft.heading draft.first.now many text

-- the text of the first lines of this number is too large
abbrev pub IsPassed : {B : Type 0} → Geometry → Draft B → ℕ → Type 0
IsPassed g draft many = (text : List ℕ) × IsDraftOf g draft many text × (MAX_WRITTEN < length text)
