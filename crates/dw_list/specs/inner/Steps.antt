-- The steps of a stack.
use Rattle.std.specs.Prelude.{◌≡◌, ℕ, ◌+◌, ◌-◌, ◌*◌, ◌^◌, ◌<◌, ◌⊎◌, ◌↔◌, Bool, Option, Some, None, option_map, List, []}
use Rattle.std.specs.Prelude.{◌∷◌, length, drop, reverse}
use Rattle.std.proofs.Common.{zero, suc}
use Rattle.dw_board.specs.Geometry.{Geometry}
use Rattle.dw_board.specs.Placement.{Placement}
use Rattle.dw_moves.specs.Moves.{Move, Legal}
use Rattle.dw_moves.specs.Order.{Precedes, IsListOf}
use Rattle.dw_solve.specs.Lines.{Line, Before}
use Rattle.dw_list.specs.LineStack.{Level, LineStack, IsStillAhead}

-- a level whose moves are not listed
abbrev pub begun : Placement → Bool → ℕ → Level
begun p attacks left = record { position = p; attacks = attacks; left = left; ahead = None }

-- the level with these moves ahead
abbrev pub with_ahead : Level → List Move → Level
with_ahead f moves = record f { ahead = Some moves }

-- the first move ahead
abbrev pub first_ahead : Option (List Move) → Option Move
first_ahead None = None
first_ahead (Some []) = None
first_ahead (Some (m ∷ moves)) = Some m

-- the level with its first move ahead passed
abbrev pub passed : Level → Level
passed f = record f { ahead = option_map (drop 1) f.ahead }

-- the levels with the first move ahead at the last one passed
abbrev pub passed_last : List Level → List Level
passed_last [] = []
passed_last (f ∷ outer) = passed f ∷ outer

-- all legal moves of the level were listed
pub record IsListing (g : Geometry) (old new : Level) : Type 0 where
  pub moves : List Move
  pub all : IsListOf (Precedes g old.position) (Legal g old.position) moves
  pub few : length moves < 2 ^ 64
  pub is : new ≡ with_ahead old moves

-- a bound on the steps for an unlisted level with this number of plies below it, if each list has at most `most` moves
unfoldable pub cost_of_all : ℕ → ℕ → ℕ
cost_of_all most zero = 0
cost_of_all most (suc plies) = most * (1 + cost_of_all most plies) + 2

abbrev pub cost_of : ℕ → ℕ → Option (List Move) → ℕ
cost_of most plies None = cost_of_all most plies
cost_of most plies (Some ahead) = length ahead * (1 + cost_of_all most (plies - 1)) + 1

-- more than the steps that a stack may still take, which has so many plies in all
abbrev pub cost : ℕ → ℕ → List Level → ℕ
cost most plies [] = 0
cost most plies (f ∷ outer) = cost_of most (plies - length outer) f.ahead + cost most plies outer

-- the lines still to come stay, and fewer steps are left
pub record IsStep (g : Geometry) (old new : LineStack) : Type 0 where
  pub position : new.position ≡ old.position
  pub moves : new.moves ≡ old.moves
  pub same : (l : List Move) → Line g old.position old.moves l →
      IsStillAhead old.levels old.line l ↔ IsStillAhead new.levels new.line l
  pub fewer : cost (2 ^ 64) (2 * new.moves) new.levels < cost (2 ^ 64) (2 * old.moves) old.levels

-- the line at which the stack stands was the first of those still to come, and is not any more
pub record IsGiven (g : Geometry) (old new : LineStack) : Type 0 where
  pub position : new.position ≡ old.position
  pub moves : new.moves ≡ old.moves
  pub line : Line g old.position old.moves (reverse new.line)
  pub here : IsStillAhead old.levels old.line (reverse new.line)
  pub either : (l : List Move) → Line g old.position old.moves l →
      IsStillAhead old.levels old.line l → (l ≡ reverse new.line) ⊎ IsStillAhead new.levels new.line l
  pub later : (l : List Move) → Line g old.position old.moves l →
      IsStillAhead new.levels new.line l → IsStillAhead old.levels old.line l
      × Before g old.position (reverse new.line) l
