-- The effect of the parts of a search.
use Rattle.std.specs.Prelude.{◌≡◌, ◌⊎◌, ◌↔◌, ℕ, ◌≤◌, Bool, cond, IsTrue, Option, Some, None, Result, IsErrOf}
use Rattle.dw_memo.specs.declared.bounds.Bounds.{Bounds}
use Rattle.dw_memo.specs.inner.Keeping.{nothing}
use Rattle.dw_board.specs.Placement.{Placement}
use Rattle.dw_memo.specs.Content.{entry, Content, positions, IsMap, SameEntries}
use Rattle.dw_board.specs.Lists.{Member}
use Rattle.dw_memo.specs.declared.memo.Noted.{Noted}
use Rattle.dw_memo.specs.Bounding.{with_win, with_fail}
use Rattle.dw_memo.specs.Noting.{IsNote}
use Rattle.dw_solve.specs.Work.{Moment, moment, NothingLost, Searched, cut_off}
use Rattle.dw_board.specs.Geometry.{Geometry}
use Rattle.dw_moves.specs.Moves.{Move, Legal, play}
use Rattle.dw_solve.specs.Wins.{Win}
use Rattle.dw_solve.specs.Facts.{KnownWin, KnownFail, AreTrue, IsDecided}
use Rattle.dw_solve.specs.Certificates.{SaysWin}
use Rattle.dw_solve.specs.Searching.{IsCounted}
use Rattle.dw_solve.specs.declared.search.Search.{Search}
use Rattle.dw_solve.specs.declared.stop.Stop.{Stop}
use Rattle.dw_solve.specs.declared.stop.Stop.TheVariants.{Limit}

-- a search at one time
abbrev pub at_time : {M G : Type 0} → (M → Content) → (M → ℕ) → Search M G → Moment
at_time content lost s = moment content lost s.memo s.expanded

-- a search can go on: all bounds in its memo are right, and it has expanded no more positions than it may
pub record CanSearch {M G : Type 0} (g : Geometry) (content : M → Content) (s : Search M G) : Type 0 where
  pub right : AreTrue g (content s.memo)
  pub within : s.expanded ≤ s.limit

-- A search went on for wins within n moves: all bounds are still right, each expansion is counted, up to the limit, and
-- the memo is as searches leave it.
pub record HasSearched {M G A : Type 0} (g : Geometry) (content : M → Content) (lost : M → ℕ) (n : ℕ)
    (old new : Search M G) (answer : Result A Stop) : Type 0 where
  pub right : AreTrue g (content new.memo)
  pub count : IsCounted old.expanded old.limit new.expanded new.limit
  pub stop : IsErrOf answer Limit → new.expanded ≡ new.limit
  pub work : Searched g n (cut_off answer n) (at_time content lost old) (at_time content lost new)

-- The memo was looked at, and nothing else was done.
pub record HasLooked {M G : Type 0} (g : Geometry) (content : M → Content) (lost : M → ℕ) (old new : Search M G)
    : Type 0 where
  pub right : AreTrue g (content new.memo)
  pub count : new.expanded ≡ old.expanded
  pub limit : new.limit ≡ old.limit
  pub same : SameEntries (content old.memo) (content new.memo)
  pub work : Searched g 0 0 (at_time content lost old) (at_time content lost new)

-- the memo does not decide whether there is a win within n moves, and n is 1 at least
pub record IsUndecided (c : Content) (p : Placement) (n : ℕ) : Type 0 where
  pub some : 1 ≤ n
  pub undecided : IsDecided c p n → ⊥
  pub map : IsMap c

-- a memo with the first content decides whether there is a win within n moves, and with the second it still says so
pub record IsKnown (g : Geometry) (before after : Content) (p : Placement) (n : ℕ) (won : Bool) : Type 0 where
  pub answer : IsTrue won ↔ Win g p n
  pub sure : (n ≡ 0) ⊎ IsDecided before p n
  pub says : SaysWin after p n won

-- the result of a look at the memo for a win within n moves: whether there is one, or that the memo does not decide it
abbrev pub IsLookedUp : Geometry → Content → Content → Placement → ℕ → Option Bool → Type 0
IsLookedUp g before after p n (Some won) = IsKnown g before after p n won
IsLookedUp g before after p n None = IsUndecided after p n

-- the memo lost nothing meanwhile
abbrev pub LosesNothing : {M G : Type 0} → (M → Content) → (M → ℕ) → Search M G → Search M G → Type 0
LosesNothing content lost old new = NothingLost (at_time content lost old) (at_time content lost new)

-- nothing was expanded, and the memo holds what it held
abbrev pub StaysIdle : {M G : Type 0} → (M → Content) → Search M G → Search M G → Type 0
StaysIdle content old new = (new.expanded ≡ old.expanded) × SameEntries (content old.memo) (content new.memo)

-- the bounds of a position: those that it has in the memo, or none
abbrev pub HasBounds : Content → Placement → Bounds → Type 0
HasBounds c p b = Member (entry p b) c ⊎ ((b ≡ nothing) × (Member p (positions c) → ⊥))

-- A note of an answer: the bounds that the position had, and whether there is a win within n, are given to the memo.
pub record IsNoted (p : Placement) (n : ℕ) (won : Bool) (before after : Moment) : Type 0 where
  pub had : Bounds
  pub held : HasBounds before.content p had
  pub answer : Noted
  pub note : IsNote before.content p (cond won (with_win had n) (with_fail had n)) answer after.content before.lost
      after.lost
  pub expanded : before.expanded ≡ after.expanded

-- the memo says of some move that after every reply there is a win within n moves, or of each that after some reply
-- there is none
pub record SaysMove (g : Geometry) (c : Content) (p : Placement) (n : ℕ) (answer : Bool) : Type 0 where
  pub when : IsTrue answer → (m : Move) × Legal g p m
      × ((r : Move) → Legal g (play g p m) r → KnownWin c (play g (play g p m) r) n)
  pub unless : (IsTrue answer → ⊥) → (m : Move) → Legal g p m
      → (r : Move) × Legal g (play g p m) r × ((n ≡ 0) ⊎ KnownFail c (play g (play g p m) r) n)
