-- Rows that grow until each follows from others.
use Rattle.std.specs.Prelude.{◌≡◌, ℕ, ◌+◌, ◌-◌, ◌≤◌, ◌⊎◌, Bool, true, false, List, ◌++◌, map, take}
use Rattle.dw_board.specs.Geometry.{Geometry}
use Rattle.dw_board.specs.Lists.{Member, NoRepeat}
use Rattle.dw_board.specs.Placement.{Placement}
use Rattle.dw_moves.specs.Moves.{Move, Legal, play}
use Rattle.dw_memo.specs.Content.{Content}
use Rattle.dw_solve.specs.Facts.{KnownWin, KnownFail}
use Rattle.dw_certificate.specs.Certificate.{Row, Step, Stepped, AreSteps, IsAfterReply, IsComeTo, positions_of, claims}

-- a fact for one number of moves, a win or no win, implies the same fact for another number
abbrev pub Suffices : (win : Bool) → (bound moves : ℕ) → Type 0
Suffices true bound moves = bound ≤ moves
Suffices false bound moves = moves ≤ bound

-- the rows state a win within a number of moves, or no win
abbrev pub Knows : (win : Bool) → Content → Placement → ℕ → Type 0
Knows true c q n = KnownWin c q n
Knows false c q n = KnownFail c q n

-- a position after a move
abbrev pub IsAfter : Geometry → Placement → Placement → Type 0
IsAfter g p q = (m : Move) × Legal g p m × (q ≡ play g p m)

-- the positions after all moves, and no others
pub record AreAfter (g : Geometry) (p : Placement) (list : List Placement) : Type 0 where
  pub all : (m : Move) → Legal g p m → Member (play g p m) list
  pub only : (q : Placement) → Member q list → IsAfter g p q

-- rows with others after them, of these positions and of 1 to this number of moves
pub record IsGrown (Of : Placement → Type 0) (moves : ℕ) (old new : List Row) : Type 0 where
  pub more : List Row
  pub is : new ≡ old ++ more
  pub once : NoRepeat (positions_of old) → NoRepeat (positions_of new)
  pub positions : (r : Row) → Member r more → Of r.0
  pub some : (r : Row) → Member r more → 1 ≤ r.1
  pub few : (r : Row) → Member r more → r.1 ≤ moves

-- a win of a position, or no win, follows from these rows
abbrev pub Follows : Geometry → (win : Bool) → Content → Placement → ℕ → Type 0
Follows g true c p w = (m : Move) × Legal g p m
    × ((r : Move) → Legal g (play g p m) r → KnownWin c (play g (play g p m) r) (w - 1))
Follows g false c p f = (m : Move) → Legal g p m → (r : Move) × Legal g (play g p m) r
    × ((f - 1 ≡ 0) ⊎ KnownFail c (play g (play g p m) r) (f - 1))

-- a step of a legal move at one position leads to another
abbrev pub LeadsTo : Geometry → Placement → List Step → Placement → Type 0
LeadsTo g p steps q = (m : Move) × Legal g p m × Member (m, q) steps

-- the rows that a row of one move more than are left needs were added: those of the positions to which its steps lead
pub record IsSupported (g : Geometry) (win : Bool) (p : Placement) (left : ℕ) (old new : List Row) : Type 0 where
  pub steps : List Step
  pub grown : IsGrown (LeadsTo g p steps) left old new
  pub are : AreSteps g win (claims win new) (p, left + 1) steps

-- the rows that a row of no win needs for the first of some moves were added
pub record IsSupportedTo (g : Geometry) (p : Placement) (moves : List Move) (count left : ℕ) (old new : List Row)
    : Type 0 where
  pub steps : List Step
  pub first : (s : Step) → Member s steps → Member s.0 (take count moves)
  pub grown : IsGrown (LeadsTo g p steps) left old new
  pub replies : (m : Move) → Member m (take count moves) → (q : Placement) × IsAfterReply g p m q
      × ((s : Step) → Member s steps → s.0 ≡ m → s.1 ≡ q) × ((left ≡ 0) ⊎ KnownFail (claims false new) q left)

-- the first rows, of this number, take steps, and these lead to all rows but the one that was asked for
pub record AreFollowed (g : Geometry) (p : Placement) (win : Bool) (rows : List Row) (count : ℕ) : Type 0 where
  pub all : List Stepped
  pub are : take count rows ≡ map (λ s. s.row) all
  pub steps : (s : Stepped) → Member s all → AreSteps g win (claims win rows) s.row s.steps
  pub come_to : (r : Row) → Member r rows → IsComeTo g p all r
