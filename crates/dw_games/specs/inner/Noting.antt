-- Noting a path in a tree.
use Rattle.std.specs.Prelude.{◌≡◌, ◌⊎◌, List, [], ◌∷◌, ◌++◌}
use Rattle.dw_board.specs.Lists.{Member}
use Rattle.dw_moves.specs.Moves.{Move}

-- a path stands in a tree already, or is put after all others
abbrev pub IsNoted : List (List Move) → List Move → List (List Move) → Type 0
IsNoted old path new = (Member path old × (new ≡ old)) ⊎ ((Member path old → ⊥) × (new ≡ old ++ path ∷ []))
