-- Ways along given moves.
use Rattle.std.specs.Prelude.{◌≡◌, ℕ, None, List, ◌∷◌}
use Rattle.dw_board.specs.Geometry.{Geometry}
use Rattle.dw_board.specs.Placement.{Placement}
use Rattle.dw_moves.specs.Moves.{Move}
use Rattle.dw_board.specs.Lists.{Member}
use Rattle.dw_list.specs.declared.line_walk.LineWalk.{LineWalk}
use Rattle.dw_list.specs.declared.line_walk.LineWalk.TheVariants.{Along, Place}
use Rattle.dw_list.specs.Places.{IsPlace}
use Rattle.dw_list.specs.inner.Ways.{IsNext}
use Rattle.dw_list.specs.LineStack.{Level, LineStack}
use Rattle.dw_list.specs.inner.Steps.{with_ahead}
use Rattle.dw_list.specs.LineWalk.{IsAlong}

-- a stack whose last level has these moves ahead
abbrev pub ahead_of : LineStack → Level → List Level → List Move → LineStack
ahead_of s f outer moves = record s { levels = with_ahead f moves ∷ outer }

-- wherever moves were ahead at the last level, the last of them still are
abbrev pub SomePassed : LineStack → LineStack → Type 0
SomePassed old new = (f : Level) (outer : List Level) (moves : List Move) → old.levels ≡ with_ahead f moves ∷ outer →
    (rest : List Move) × (new ≡ ahead_of old f outer rest)

-- a move is not ahead at the last level
abbrev pub IsNotAhead : LineStack → Move → Type 0
IsNotAhead s m =
    (f : Level) (outer : List Level) (moves : List Move) → s.levels ≡ with_ahead f moves ∷ outer → Member m moves → ⊥

-- the moves of the last level are not listed
pub record IsUnlisted (levels : List Level) : Type 0 where
  pub last : Level
  pub outer : List Level
  pub are : levels ≡ last ∷ outer
  pub ahead : last.ahead ≡ None

-- the stack went on with a move, and the moves after it are not listed
pub record WentOn (old new : LineStack) (m : Move) : Type 0 where
  pub position : new.position ≡ old.position
  pub moves : new.moves ≡ old.moves
  pub line : new.line ≡ m ∷ old.line
  pub unlisted : IsUnlisted new.levels

-- lines go on with the move at the last level
pub record GoOnWith (g : Geometry) (levels : List Level) (m : Move) : Type 0 where
  pub last : Level
  pub outer : List Level
  pub are : levels ≡ last ∷ outer
  pub next : IsNext g last.attacks last.position last.left m

-- the result of a walk along a list of moves
abbrev pub IsLineWalk : {B : Type 0} → Geometry → Placement → ℕ → List Move → LineWalk B → Type 0
IsLineWalk g p n l (Along s) = IsAlong g p n l s
IsLineWalk g p n l (Place k) = IsPlace g p n l k
