-- Laws of the rules by which a token stands for moves: no token fits two of them.
use Rattle.std.specs.Prelude.{◌≡◌, ℕ, Err, List}
use Rattle.dw_board.specs.Geometry.{Geometry}
use Rattle.dw_board.specs.Placement.{Placement}
use Rattle.dw_moves.specs.Moves.{Legal, Move, play}
use Rattle.dw_notation.specs.MoveReading.{IsRead}
use Rattle.dw_notation.specs.declared.read_move.MoveFault.TheVariants as reading
use Rattle.dw_games.specs.Tokens.{Token}
use Rattle.dw_games.specs.Play.{HasTwoMoves, IsMove, IsNamed, IsOnlyMove, NamesNoneBehind, plain}

-- No text names a legal move of a position, and one after some legal move of it: the two sides' pieces stand on
-- different squares. So a token names no move in place of a move if it names one after it.
abbrev pub NamesOneSide : Type 0
NamesOneSide = (g : Geometry) (p : Placement) (m : Move) (text : List ℕ) → Legal g p m → IsNamed g p text
    → IsNamed g (play g p m) text → ⊥

-- the rules that a token may fit: it names one legal move, or one after the only reply, or it is refused
pub data Rule : Type 0 where
  names : Rule
  leaves_out : Rule
  refuses : Rule

-- a token fits a rule at a position, whatever it fits besides
pub data Fits (g : Geometry) (p : Placement) (t : Token) : Rule → Type 0 where
  named : (m : Move) → IsMove g p t m → Fits g p t names
  left_out : (reply m : Move) → IsOnlyMove g p reply → IsMove g (play g p reply) t m → Fits g p t leaves_out
  ambiguous : IsRead g p (plain t.text) (Err reading.Ambiguous) → Fits g p t refuses
  ambiguous_behind : (reply : Move) → IsOnlyMove g p reply
      → IsRead g (play g p reply) (plain t.text) (Err reading.Ambiguous) → Fits g p t refuses
  not_forced : (reply : Move) → HasTwoMoves g p → Legal g p reply → IsNamed g (play g p reply) (plain t.text)
      → Fits g p t refuses
  nowhere : IsRead g p (plain t.text) (Err reading.NoSuchMove) → NamesNoneBehind g p (plain t.text)
      → Fits g p t refuses

-- no token fits two rules at a position
abbrev pub FitsOneRule : Type 0
FitsOneRule = (g : Geometry) (p : Placement) (t : Token) (rule other : Rule) → Fits g p t rule → Fits g p t other
    → rule ≡ other
