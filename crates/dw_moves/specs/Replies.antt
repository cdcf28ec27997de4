-- Steps of one square, and replies that exist whatever is played.
use Rattle.std.specs.Prelude.{◌≡◌, ℕ, ◌⊎◌, Some, None, IsTrue}
use Rattle.dw_board.specs.declared.board.Dir.{Dir}
use Rattle.dw_board.specs.declared.piece.Kind.TheVariants.{Man}
use Rattle.dw_board.specs.declared.piece.Piece.{Piece}
use Rattle.dw_board.specs.declared.piece.Side.{Side}
use Rattle.dw_board.specs.Geometry.{Geometry, step, back}
use Rattle.dw_board.specs.Placement.{Placement, at, is_of}
use Rattle.std.specs.FinSet as set
use Rattle.dw_moves.specs.Moves.{IsForward, Stands, CanCapture, Move, Legal, play}
use Rattle.dw_board.specs.Placement.{other}

-- the same pieces, and it is this side's turn
abbrev pub with_turn : Placement → Side → Placement
with_turn p side = record { cells = p.cells; turn = side }

-- the same pieces, and it is the other player's turn
abbrev pub passed : Placement → Placement
passed p = with_turn p (other p.turn)

-- a quiet move to the next square
pub record OneStep (g : Geometry) (p : Placement) (from to : ℕ) : Type 0 where
  pub piece : Piece
  pub stands : Stands g p from piece
  pub dir : Dir
  pub leads : step g from dir ≡ Some to
  pub free : at p to ≡ None
  pub man : piece.kind ≡ Man → IsForward p.turn dir

-- steps of this kind lead to two different squares or more
pub record LeadToTwo (Leads : ℕ → ℕ → Type 0) : Type 0 where
  pub from : ℕ
  pub to : ℕ
  pub one : Leads from to
  pub from_too : ℕ
  pub to_too : ℕ
  pub two : Leads from_too to_too
  pub apart : to ≡ to_too → ⊥

-- a piece could go one square, to two different squares or more
abbrev pub TwoSteps : Geometry → Placement → Type 0
TwoSteps g p = LeadToTwo (OneStep g p)

-- nothing can be taken, and if it were the other side's turn, there would be steps to two squares
abbrev pub IsLoose : Geometry → Placement → Type 0
IsLoose g p = (CanCapture g p → ⊥) × TwoSteps g (passed p)

-- whatever is played, the other side has a reply
abbrev pub AlwaysReply : Geometry → Placement → Type 0
AlwaysReply g p = (m : Move) → Legal g p m → (r : Move) × Legal g (play g p m) r

-- on the next square in a direction no piece of this side stands
abbrev pub IsOpen : Geometry → Placement → Side → ℕ → Dir → Type 0
IsOpen g p side s d = (t : ℕ) × (step g s d ≡ Some t) × (IsTrue (is_of side (at p t)) → ⊥)

-- a piece on s is exposed: on some diagonal it is open to both sides; a piece that is not exposed cannot be taken
abbrev pub IsExposed : Geometry → Placement → Side → ℕ → Type 0
IsExposed g p side s = (d : Dir) × IsOpen g p side s d × IsOpen g p side s (back d)

-- if it were the other side's turn, a piece of it that is not exposed could go one square
abbrev pub SafeStep : Geometry → Placement → ℕ → ℕ → Type 0
SafeStep g p from to = OneStep g (passed p) from to × (IsExposed g p (other p.turn) from → ⊥)

-- the other side has a sure reply: steps to two squares if nothing can be taken, else such steps by pieces not exposed
abbrev pub HasSureReply : Geometry → Placement → Type 0
HasSureReply g p = IsLoose g p ⊎ LeadToTwo (SafeStep g p)

-- a quiet move to the next square, after which its side has a sure reply, so that the other side does not win at once
abbrev pub IsSureStep : Geometry → Placement → Move → Type 0
IsSureStep g p m = OneStep g p m.from m.to × (m.taken ≡ set.empty) × HasSureReply g (play g p m)
