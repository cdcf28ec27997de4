-- The results of a search from a list of moves.
use Rattle.std.specs.Prelude.{◌≡◌, ◌⊎◌, ◌↔◌, ℕ, Bool, IsTrue, List, Option, Some, None}
use Rattle.dw_board.specs.Geometry.{Geometry}
use Rattle.dw_board.specs.Placement.{Placement}
use Rattle.dw_moves.specs.Moves.{Move, Legal, play}
use Rattle.dw_moves.specs.Replies.{AlwaysReply}
use Rattle.dw_memo.specs.Content.{Content}
use Rattle.dw_board.specs.Lists.{Member}
use Rattle.dw_solve.specs.Certificates.{SaysLost}
use Rattle.dw_solve.specs.Facts.{KnownWin, KnownFail, RepliesAreDecided}
use Rattle.dw_solve.specs.Ranking.{AreRanked, moves_of}
use Rattle.dw_solve.specs.Wins.{Win, Lost}
use Rattle.dw_solve.specs.Work.{Moment, NothingLost}
use Rattle.dw_solve.specs.declared.replies.Tried.{Tried}
use Rattle.dw_solve.specs.declared.replies.Tried.TheVariants.{Answered, PutOff}

-- the position after a legal move, after which its side has a reply to every move of the other side
abbrev pub IsSureReply : Geometry → Placement → Placement → Type 0
IsSureReply g p after = (m : Move) × Legal g p m × (after ≡ play g p m) × AlwaysReply g after

-- the answer says whether some legal move leaves the other side without one; if not, each leaves it a reply
pub record IsLastWin (g : Geometry) (p : Placement) (answer : Bool) : Type 0 where
  pub when : IsTrue answer → (m : Move) × Legal g p m × ((r : Move) → Legal g (play g p m) r → ⊥)
  pub unless : (IsTrue answer → ⊥) → (m : Move) → Legal g p m → (r : Move) × Legal g (play g p m) r

-- each of these moves is legal
abbrev pub AreAllLegal : Geometry → Placement → List Move → Type 0
AreAllLegal g p moves = (m : Move) → Member m moves → Legal g p m

-- at the last move of the attacker: a reply surely refutes, or all legal moves are listed
abbrev pub AreLinedUpLast : Geometry → Placement → List (ℕ × Move) → Option Placement → Type 0
AreLinedUpLast g q ranked (Some after) = IsSureReply g q after
AreLinedUpLast g q ranked None = AreRanked g q ranked

-- P holds of the answer for a reply, if it was not put off
abbrev pub IfAnswered : (Bool → Type 0) → Tried → Type 0
IfAnswered P (Answered wins) = P wins
IfAnswered P (PutOff rank) = Unit {0}

-- there is a win within n after a reply, and the memo says so if it lost nothing meanwhile
pub record IsAnswered (g : Geometry) (q : Placement) (n : ℕ) (before after : Moment) (r : Move) : Type 0 where
  pub wins : Win g (play g q r) n
  pub says : NothingLost before after → KnownWin after.content (play g q r) n

-- these replies are legal, and each other one was answered
pub record AreOpen (g : Geometry) (q : Placement) (n : ℕ) (replies : List Move) (before after : Moment) : Type 0 where
  pub legal : AreAllLegal g q replies
  pub others : (r : Move) → Legal g q r → Member r replies ⊎ IsAnswered g q n before after r

-- after each of these replies there is a win within n
abbrev pub AllWin : Geometry → Placement → ℕ → List (ℕ × Move) → Type 0
AllWin g q n ranked = (r : Move) → Member r (moves_of ranked) → Win g (play g q r) n

-- the memo says that after each of these replies there is a win within n, or that after some legal one there is none
pub record SaysAll (g : Geometry) (c : Content) (q : Placement) (n : ℕ) (ranked : List (ℕ × Move)) (answer : Bool)
    : Type 0 where
  pub when : IsTrue answer → (r : Move) → Member r (moves_of ranked) → KnownWin c (play g q r) n
  pub unless : (IsTrue answer → ⊥) → (r : Move) × Legal g q r × ((n ≡ 0) ⊎ KnownFail c (play g q r) n)

-- The result of looks at the memo for a loss: whether there is one, as the memo says; or that it does not decide each
-- reply.
abbrev pub IsLossLookedUp : Geometry → Content → Content → Placement → ℕ → Option Bool → Type 0
IsLossLookedUp g before after q n (Some answer) = (IsTrue answer ↔ Lost g q n) × SaysLost g after q n answer
IsLossLookedUp g before after q n None = RepliesAreDecided g before q n → ⊥
