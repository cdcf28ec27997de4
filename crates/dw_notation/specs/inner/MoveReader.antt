-- The results of the parts of reading a move's text.
use Rattle.std.specs.Prelude.{◌≡◌, ℕ, ◌<◌, false, Result, Ok, Err, List, ◌++◌}
use Rattle.std.specs.FinSet as set
use Rattle.dw_board.specs.Geometry.{Geometry}
use Rattle.dw_board.specs.FenTokens.{begins_with_digit}
use Rattle.dw_moves.specs.Moves.{Move}
use Rattle.dw_board.specs.Lists.{Member}
use Rattle.dw_notation.specs.MoveReading.{IsNumber, Between}
use Rattle.dw_notation.specs.declared.read_move.MoveFault.{MoveFault}
use Rattle.dw_notation.specs.declared.read_move.MoveFault.TheVariants.{Syntax, NoSuchMove, Ambiguous, Memory}

-- all digits at the front give the number of a square, and the rest stands after them
pub record Begins (g : Geometry) (text : List ℕ) (s : ℕ) (rest : List ℕ) : Type 0 where
  pub front : List ℕ
  pub joined : text ≡ front ++ rest
  pub number : IsNumber g front s
  pub ends : begins_with_digit rest ≡ false

-- no number of a square stands at the front
abbrev pub BeginsNowhere : Geometry → List ℕ → Type 0
BeginsNowhere g text = (s : ℕ) (rest : List ℕ) → Begins g text s rest → ⊥

-- a move between two squares takes something
abbrev pub Takes : ℕ → ℕ → Move → Type 0
Takes from to m = Between from to m × (0 < set.len m.taken)

-- m is among these moves, and takes something between two squares
abbrev pub IsOneOf : List Move → ℕ → ℕ → Move → Type 0
IsOneOf moves from to m = Member m moves × Takes from to m

-- m is the only one of these moves that takes something between two squares
pub record IsOnlyOne (moves : List Move) (from to : ℕ) (m : Move) : Type 0 where
  pub one : IsOneOf moves from to m
  pub alone : (other : Move) → IsOneOf moves from to other → other ≡ m

-- two of these moves take something between two squares
pub record AreTwo (moves : List Move) (from to : ℕ) : Type 0 where
  pub first : Move
  pub second : Move
  pub one : IsOneOf moves from to first
  pub another : IsOneOf moves from to second
  pub differ : first ≡ second → ⊥

-- the result for the captures between two squares: the only one, that there is none, or that there are two
abbrev pub IsOnly : List Move → ℕ → ℕ → Result Move MoveFault → Type 0
IsOnly moves from to (Ok m) = IsOnlyOne moves from to m
IsOnly moves from to (Err Syntax) = ⊥
IsOnly moves from to (Err NoSuchMove) = (m : Move) → IsOneOf moves from to m → ⊥
IsOnly moves from to (Err Ambiguous) = AreTwo moves from to
IsOnly moves from to (Err Memory) = ⊥
