-- Certificates: answers that anyone can check without a search.
use Rattle.std.specs.Prelude.{◌≡◌, ℕ, ◌-◌, ◌≤◌, ◌<◌, ◌⊎◌, Bool, true, false, List, map, Some, None}
use Rattle.dw_board.specs.Geometry.{Geometry}
use Rattle.dw_board.specs.Lists.{Member, NoRepeat}
use Rattle.dw_board.specs.Placement.{Placement}
use Rattle.dw_moves.specs.Moves.{Move, Legal, play}
use Rattle.dw_memo.specs.declared.bounds.Bounds.{Bounds}
use Rattle.dw_memo.specs.Content.{entry, Content}
use Rattle.dw_solve.specs.Facts.{IsClosed, KnownFail, KnownWin}
use Rattle.dw_solve.specs.Certificates.{SaysWin}

-- a position and a number of moves
abbrev pub Row : Type 0
Row = Placement × ℕ

-- the positions of rows
abbrev pub positions_of : List Row → List Placement
positions_of rows = map (λ r. r.0) rows

-- the bounds that state a win within a number of moves, or no win
abbrev pub bounds_of : (win : Bool) → ℕ → Bounds
bounds_of true n = record { fails = None; wins = Some n }
bounds_of false n = record { fails = Some n; wins = None }

-- the statement of rows: each position has a win within its number of moves, or each has none
abbrev pub claims : (win : Bool) → List Row → Content
claims win rows = map (λ r. entry r.0 (bounds_of win r.1)) rows

-- one position comes after a move at another and some reply to it
abbrev pub IsAfterReply : Geometry → Placement → Move → Placement → Type 0
IsAfterReply g p m q = (r : Move) × Legal g (play g p m) r × (q ≡ play g (play g p m) r)

-- a move that a row chooses, and the position after a reply to it
abbrev pub Step : Type 0
Step = Move × Placement

-- The steps that a row takes. A row of a win takes one move and all replies to it; for the positions after them the
-- rows state a win in one move less. A row of no win takes one reply to every move; for the positions after them the
-- rows state no win in one move less.
abbrev pub AreSteps : Geometry → (win : Bool) → Content → Row → List Step → Type 0
AreSteps g true c row steps =
    (m : Move) × Legal g row.0 m × ((s : Step) → Member s steps → (s.0 ≡ m) × IsAfterReply g row.0 m s.1)
    × ((q : Placement) → IsAfterReply g row.0 m q → KnownWin c q (row.1 - 1))
AreSteps g false c row steps =
    (m : Move) → Legal g row.0 m → (q : Placement) × IsAfterReply g row.0 m q
    × ((s : Step) → Member s steps → s.0 ≡ m → s.1 ≡ q) × ((row.1 - 1 ≡ 0) ⊎ KnownFail c q (row.1 - 1))

-- a row with its steps
pub record Stepped : Type 0 where
  pub row : Row
  pub steps : List Step

-- a row has the position of the question, or a step of another row with more moves leads to it
abbrev pub IsComeTo : Geometry → Placement → List Stepped → Row → Type 0
IsComeTo g p all row = (row.0 ≡ p)
    ⊎ ((from : Stepped) × (m : Move) × Member from all × Legal g from.row.0 m × Member (m, row.0) from.steps
    × (row.1 < from.row.1))

-- rows in which each position occurs once, with 1 to n moves
pub record AreRows (n : ℕ) (rows : List Row) : Type 0 where
  pub once : NoRepeat (positions_of rows)
  pub some : (r : Row) → Member r rows → 1 ≤ r.1
  pub few : (r : Row) → Member r rows → r.1 ≤ n

-- each row takes steps, and these lead from the position of the question to all rows
pub record AreNeeded (g : Geometry) (p : Placement) (win : Bool) (rows : List Row) : Type 0 where
  pub all : List Stepped
  pub are : rows ≡ map (λ s. s.row) all
  pub steps : (s : Stepped) → Member s all → AreSteps g win (claims win rows) s.row s.steps
  pub come_to : (r : Row) → Member r rows → IsComeTo g p all r

-- A certificate that there is a win within n moves, or none: each row follows from other rows, by one move and its
-- replies; the rows answer the question; and each row is needed.
pub record IsCertificate (g : Geometry) (p : Placement) (n : ℕ) (win : Bool) (rows : List Row) : Type 0 where
  pub are : AreRows n rows
  pub needed : AreNeeded g p win rows
  pub closed : IsClosed g (claims win rows)
  pub says : SaysWin (claims win rows) p n win
