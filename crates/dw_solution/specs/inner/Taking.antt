-- Taking the lines of a lister one by one.
use Rattle.std.specs.Prelude.{◌≡◌, ℕ, List, [], ◌∷◌, ◌++◌, Bool, true, false}
use Rattle.dw_board.specs.Geometry.{Geometry}
use Rattle.dw_board.specs.Placement.{Placement}
use Rattle.dw_moves.specs.Moves.{Move}
use Rattle.dw_solve.specs.Lines.{Lines}
use Rattle.dw_list.specs.LineStack.{LineStack, AreToCome}

-- these lines are the first ones of a position, and those still to come of a stack are the others
pub record AreTaken (g : Geometry) (p : Placement) (n : ℕ) (stack : LineStack) (taken : List (List Move)) : Type 0 where
  pub rest : List (List Move)
  pub all : Lines g p n (taken ++ rest)
  pub to_come : AreToCome g stack rest

-- the next line was taken, if there was one, or else all lines are
abbrev pub Takes : Geometry → Placement → ℕ → Bool → LineStack → (old new : List (List Move)) → Type 0
Takes g p n true stack old new = AreTaken g p n stack new × ((line : List Move) × (new ≡ old ++ line ∷ []))
Takes g p n false stack old new = Lines g p n old × (new ≡ old)

-- there is a next line, or else all lines are taken
abbrev pub GoesOn : Geometry → Placement → ℕ → Bool → List (List Move) → Type 0
GoesOn g p n true taken = (line : List Move) × (rest : List (List Move)) × Lines g p n (taken ++ line ∷ rest)
GoesOn g p n false taken = Lines g p n taken
