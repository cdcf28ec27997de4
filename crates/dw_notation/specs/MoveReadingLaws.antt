-- Laws of reading the texts of moves.
use Rattle.std.specs.Prelude.{◌≡◌, ◌⊎◌, ℕ, List, Result, Ok, Err}
use Rattle.dw_board.specs.Geometry.{Geometry, IsBoard}
use Rattle.dw_board.specs.Placement.{Placement, IsPosition}
use Rattle.dw_moves.specs.Moves.{Move}
use Rattle.dw_notation.specs.Text.{IsMoveText}
use Rattle.dw_notation.specs.MoveReading.{Named, Names, IsRead}
use Rattle.dw_notation.specs.declared.read_move.MoveFault.{MoveFault}
use Rattle.dw_notation.specs.declared.read_move.MoveFault.TheVariants.{Memory}

-- a text names at most one thing
abbrev pub NamesOneThing : Type 0
NamesOneThing = (g : Geometry) (text : List ℕ) (named other : Named) → Names g text named → Names g text other
    → named ≡ other

-- a text has one answer, if memory is not refused
abbrev pub HasOneAnswer : Type 0
HasOneAnswer =
    (g : Geometry) (p : Placement) (text : List ℕ) (answer other : Result Move MoveFault) → IsRead g p text answer
    → IsRead g p text other
    → (answer ≡ other) ⊎ ((answer ≡ Err Memory) ⊎ (other ≡ Err Memory))

-- the written text of a legal move names something that only this move fits
abbrev pub WrittenMoveIsNamed : Type 0
WrittenMoveIsNamed =
    (g : Geometry) → IsBoard g → (p : Placement) → IsPosition g p.cells → (m : Move) (text : List ℕ)
    → IsMoveText g p m text → IsRead g p text (Ok m)

-- the written text of a legal move is read as that move, if memory is not refused
abbrev pub WrittenMoveIsRead : Type 0
WrittenMoveIsRead =
    (g : Geometry) → IsBoard g → (p : Placement) → IsPosition g p.cells
    → (m : Move) (text : List ℕ) (answer : Result Move MoveFault) → IsMoveText g p m text → IsRead g p text answer
    → (answer ≡ Ok m) ⊎ (answer ≡ Err Memory)
