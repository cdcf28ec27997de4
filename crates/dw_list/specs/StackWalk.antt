-- The effect of a walk over a stack.
use Rattle.std.specs.Prelude.{◌≡◌, ◌↔◌, List, [], ◌∷◌, ◌++◌, reverse}
use Rattle.dw_board.specs.Geometry.{Geometry}
use Rattle.dw_moves.specs.Moves.{Move}
use Rattle.dw_list.specs.LineStack.{LineStack, AreToCome}

-- these lines were the first of those still to come, and the others still are
pub record Gives (g : Geometry) (old new : LineStack) (given : List (List Move)) : Type 0 where
  pub position : new.position ≡ old.position
  pub moves : new.moves ≡ old.moves
  pub first : (lines : List (List Move)) → AreToCome g old lines →
      (rest : List (List Move)) × (lines ≡ given ++ rest)
  pub rest : (rest : List (List Move)) → AreToCome g old (given ++ rest) ↔ AreToCome g new rest

-- the same lines are still to come
abbrev pub SameToCome : Geometry → LineStack → LineStack → Type 0
SameToCome g old new = Gives g old new []

-- the line at which the stack stands was the first of those still to come, and the others still are
abbrev pub GivesFirst : Geometry → LineStack → LineStack → Type 0
GivesFirst g old new = Gives g old new (reverse new.line ∷ [])

-- no line is still to come
pub record GivesNone (g : Geometry) (old new : LineStack) : Type 0 where
  pub same : SameToCome g old new
  pub none : AreToCome g old []
