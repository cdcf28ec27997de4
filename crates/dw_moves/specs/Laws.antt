-- Laws of moves, for every board.
use Rattle.std.specs.Prelude.{◌≡◌, ℕ, ◌≤◌, ◌↔◌, List, length}
use Rattle.std.specs.FinSet as set
use Rattle.dw_board.specs.Geometry.{Geometry, IsBoard, OnBoard}
use Rattle.dw_board.specs.Placement.{Placement, IsPosition, count}
use Rattle.dw_moves.specs.Moves.{Path, IsBest, Move, Quiet, IsPathOf, Legal, play}
use Rattle.dw_board.specs.Lists.{Member}
use Rattle.dw_board.specs.Placement.{other}
use Rattle.dw_moves.specs.Replies.{OneStep, HasSureReply, AlwaysReply}
use Rattle.dw_moves.specs.Order.{IsKey, Precedes, IsListOf, Listed, AreListed}

-- a path determines its taken pieces: two paths over the same landings from the same square take the same ones in order
abbrev pub PathTells : Type 0
PathTells = (g : Geometry) → IsBoard g → (p : Placement) (from : ℕ) (landings taken others : List ℕ) →
    Path g p from landings taken → Path g p from landings others → taken ≡ others

-- a path takes at most all pieces of the other side
abbrev pub PathIsShort : Type 0
PathIsShort = (g : Geometry) (p : Placement) (from : ℕ) (landings taken : List ℕ) → Path g p from landings taken →
    length taken ≤ count p (other p.turn)

-- some list has exactly the legal moves of a position
abbrev pub MovesListed : Type 0
MovesListed = (g : Geometry) (p : Placement) → (moves : List Move) × ((m : Move) → Member m moves ↔ Legal g p m)

-- there is a greatest number of pieces that can be taken, and only one
pub record OneBest : Type 0 where
  pub some : (g : Geometry) (p : Placement) → (k : ℕ) × IsBest g p k
  pub only : (g : Geometry) (p : Placement) (j k : ℕ) → IsBest g p j → IsBest g p k → j ≡ k

-- a legal move takes the greatest number of pieces, twenty at most; a path lands once for each, and on squares of the
-- board
pub record LegalMovesTake : Type 0 where
  pub taken : (g : Geometry) (p : Placement) (k : ℕ) (m : Move) → IsBest g p k → Legal g p m → set.len m.taken ≡ k
  pub few : (g : Geometry) → IsBoard g → (p : Placement) (m : Move) → IsPosition g p.cells → Legal g p m
      → set.len m.taken ≤ 20
  pub long : (g : Geometry) (p : Placement) (m : Move) (k : ℕ) (landings : List ℕ) → IsPathOf g p m k landings
      → length landings ≡ k
  pub lands : (g : Geometry) → IsBoard g → (p : Placement) (m : Move) (k : ℕ) (landings : List ℕ)
      → IsPathOf g p m k landings → (s : ℕ) → Member s landings → OnBoard g s
  pub goes : (g : Geometry) → IsBoard g → (p : Placement) (from to : ℕ) → Quiet g p from to → OnBoard g to

-- a legal move leads from a position to a position
abbrev pub PlayStays : Type 0
PlayStays = (g : Geometry) → IsBoard g → (p : Placement) (m : Move) → IsPosition g p.cells → Legal g p m
    → IsPosition g (play g p m).cells

-- each legal move has a key, and only one; different moves have different keys
pub record MovesHaveKeys : Type 0 where
  pub each : (g : Geometry) (p : Placement) (m : Move) → Legal g p m → (key : List ℕ) × IsKey g p m key
  pub one : (g : Geometry) (p : Placement) (m : Move) (k l : List ℕ) → IsKey g p m k → IsKey g p m l → k ≡ l
  pub differ : (g : Geometry) → IsBoard g → (p : Placement) (m n : Move) (k : List ℕ) → IsKey g p m k → IsKey g p n k
      → m ≡ n

-- exactly one list has the legal moves in ascending order, and exactly one also has their least paths
pub record MovesInOrder : Type 0 where
  pub some : (g : Geometry) → IsBoard g → (p : Placement)
      → (moves : List Move) × IsListOf (Precedes g p) (Legal g p) moves
  pub only : (g : Geometry) (p : Placement) (moves others : List Move) → IsListOf (Precedes g p) (Legal g p) moves
      → IsListOf (Precedes g p) (Legal g p) others → moves ≡ others
  pub listed : (g : Geometry) → IsBoard g → (p : Placement) → (list : List Listed) × AreListed g p list
  pub same : (g : Geometry) (p : Placement) (list others : List Listed) → AreListed g p list → AreListed g p others
      → list ≡ others

-- a step of one square is a quiet move
abbrev pub StepsAreQuiet : Type 0
StepsAreQuiet = (g : Geometry) → IsBoard g → (p : Placement) (from to : ℕ) → OneStep g p from to → Quiet g p from to

-- if the other side has a sure reply, it has a reply to every move
abbrev pub SureReplies : Type 0
SureReplies = (g : Geometry) → IsBoard g → (p : Placement) → HasSureReply g p → AlwaysReply g p
