-- Laws of the texts of moves.
use Rattle.std.specs.Prelude.{◌≡◌, ◌<◌, ℕ, List}
use Rattle.dw_board.specs.Geometry.{Geometry, IsBoard}
use Rattle.dw_board.specs.Placement.{Placement, IsPosition}
use Rattle.dw_moves.specs.Moves.{Move, Legal, SharesEnds}
use Rattle.std.specs.FinSet as set
use Rattle.dw_board.specs.FenTokens.{dash}
use Rattle.dw_notation.specs.Text.{cross, ends_text, IsMoveText, IsLineText, ArePlayable}

-- each legal move of a position has a text, and only one; different moves have different texts
pub record MovesHaveTexts : Type 0 where
  pub some : (g : Geometry) → IsBoard g → (p : Placement) (m : Move) → Legal g p m
      → (text : List ℕ) × IsMoveText g p m text
  pub one : (g : Geometry) (p : Placement) (m : Move) (text other : List ℕ) → IsMoveText g p m text
      → IsMoveText g p m other → text ≡ other
  pub differ : (g : Geometry) → IsBoard g → (p : Placement) → IsPosition g p.cells → (m n : Move) (text : List ℕ)
      → IsMoveText g p m text → IsMoveText g p n text → m ≡ n

-- a quiet move, a capture of one piece, and a capture whose ends no other one shares are written by their ends
pub record EndsTell : Type 0 where
  pub quiet : (g : Geometry) → IsBoard g → (p : Placement) (m : Move) → Legal g p m → set.len m.taken ≡ 0
      → IsMoveText g p m (ends_text dash m)
  pub one : (g : Geometry) → IsBoard g → (p : Placement) (m : Move) → Legal g p m → set.len m.taken ≡ 1
      → IsMoveText g p m (ends_text cross m)
  pub apart : (g : Geometry) → IsBoard g → (p : Placement) (m : Move) → Legal g p m → 0 < set.len m.taken
      → (SharesEnds g p m → ⊥) → IsMoveText g p m (ends_text cross m)

-- moves that can be played one after another have a text as a line, and only one
pub record LinesHaveTexts : Type 0 where
  pub some : (g : Geometry) → IsBoard g → (p : Placement) (moves : List Move) → ArePlayable g p moves
      → (text : List ℕ) × IsLineText g p moves text
  pub one : (g : Geometry) (p : Placement) (moves : List Move) (text other : List ℕ) → IsLineText g p moves text
      → IsLineText g p moves other → text ≡ other
