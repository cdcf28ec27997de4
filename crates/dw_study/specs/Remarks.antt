-- The remarks on an author's solution: on a tree of moves, given by the beginnings of its paths.
use Rattle.std.specs.Prelude.{◌≡◌, ◌⊎◌, ℕ, ◌-◌, ◌<◌, Option, Some, List, [], ◌∷◌, ◌++◌, map, slice_get}
use Rattle.std.proofs.Common.{zero, suc}
use Rattle.dw_board.specs.Geometry.{Geometry}
use Rattle.dw_board.specs.Placement.{Placement}
use Rattle.dw_board.specs.Lists.{Member}
use Rattle.dw_moves.specs.Moves.{Move, Legal, NoMove, play}
use Rattle.dw_moves.specs.Order.{Precedes, IsListOf}
use Rattle.dw_solve.specs.Solving.{IsLeast}
use Rattle.dw_solve.specs.Wins.{Lost}
use Rattle.dw_verdict.specs.Verdict.{IsWinning, Refutes}

pub data Remark : Type 0 where
  fails : (beginning : List Move) (move reply : Move) → Remark
  also : (beginning keys : List Move) → Remark
  leaves_open : (beginning replies : List Move) → Remark
  ends : (beginning : List Move) (wins_in : Option ℕ) → Remark

-- the tree goes on from a beginning, which leads to p, by a move that is legal there
abbrev pub GoesOnBy : Geometry → Placement → List (List Move) → List Move → Move → Type 0
GoesOnBy g p tree b m = Legal g p m × Member (b ++ m ∷ []) tree

-- of two moves after a beginning, the one that stands first in the tree comes first
abbrev pub StandsBefore : List (List Move) → List Move → Move → Move → Type 0
StandsBefore tree b m o = (i : ℕ) × (j : ℕ) × (i < j) × (slice_get tree i ≡ Some (b ++ m ∷ []))
    × (slice_get tree j ≡ Some (b ++ o ∷ []))

-- the first reply after which the attacker has no win within n moves: it comes before all other such replies
pub record IsFirstRefutation (g : Geometry) (q : Placement) (n : ℕ) (reply : Move) : Type 0 where
  pub refutes : Refutes g q n reply
  pub first : (other : Move) → Refutes g q n other → (other ≡ reply) ⊎ Precedes g q reply other

-- a move by which the tree goes on, which does not win within n, and the first reply that refutes it
abbrev pub IsFailing : Geometry → Placement → ℕ → List (List Move) → List Move → Move × Move → Type 0
IsFailing g p n tree b t = GoesOnBy g p tree b t.0 × IsFirstRefutation g (play g p t.0) (n - 1) t.1

-- a remark on some moves, if there are any
abbrev pub if_any : (List Move → Remark) → List Move → List Remark
if_any remark [] = []
if_any remark (m ∷ moves) = remark (m ∷ moves) ∷ []

-- the least number of moves within which the side to move has lost
pub record IsLeastLoss (g : Geometry) (q : Placement) (k : ℕ) : Type 0 where
  pub lost : Lost g q k
  pub none_less : (j : ℕ) → j < k → Lost g q j → ⊥

-- The remarks on a beginning after which the attacker is to move, with n moves left, and the moves of the tree that are
-- examined further: those that win. It is an end, with the least number of moves within which he wins; or there are
-- remarks on each move that fails, and on the keys that the tree lacks.
pub data AtAttacker (g : Geometry) (p : Placement) (n : ℕ) (tree : List (List Move)) (b : List Move)
    : List Remark → List Move → Type 0 where
  without_move : {wins_in : Option ℕ} → ((m : Move) → GoesOnBy g p tree b m → ⊥) → IsLeast g p n wins_in
      → AtAttacker g p n tree b (ends b wins_in ∷ []) []
  with_moves : {failing : List (Move × Move)} {others keys : List Move} (m : Move) → GoesOnBy g p tree b m
      → IsListOf (λ s t. StandsBefore tree b s.0 t.0) (IsFailing g p n tree b) failing
      → IsListOf (Precedes g p) (λ k. IsWinning g p n k × (GoesOnBy g p tree b k → ⊥)) others
      → IsListOf (StandsBefore tree b) (λ k. GoesOnBy g p tree b k × IsWinning g p n k) keys
      → AtAttacker g p n tree b (map (λ t. fails b t.0 t.1) failing ++ if_any (also b) others) keys

-- The remarks on a beginning after which the defender is to move, and the replies of the tree, which are all examined
-- further. The play is over; or it is an end, with the least number of moves within which he has lost; or there is a
-- remark on the replies that the tree lacks.
pub data AtDefender (g : Geometry) (q : Placement) (tree : List (List Move)) (b : List Move)
    : List Remark → List Move → Type 0 where
  over : NoMove g q → AtDefender g q tree b [] []
  without_reply : {k : ℕ} (r : Move) → Legal g q r → ((s : Move) → GoesOnBy g q tree b s → ⊥) → IsLeastLoss g q k
      → AtDefender g q tree b (ends b (Some k) ∷ []) []
  with_replies : {others replies : List Move} (r : Move) → GoesOnBy g q tree b r
      → IsListOf (Precedes g q) (λ s. Legal g q s × (GoesOnBy g q tree b s → ⊥)) others
      → IsListOf (StandsBefore tree b) (GoesOnBy g q tree b) replies
      → AtDefender g q tree b (if_any (leaves_open b) others) replies

-- the remarks after each of these moves, in turn
pub data InTurn (Behind : Move → List Remark → Type 0) : List Move → List Remark → Type 0 where
  nothing : InTurn Behind [] []
  one_more : {moves : List Move} {before remarks : List Remark} (m : Move) → InTurn Behind moves before
      → Behind m remarks → InTurn Behind (moves ++ m ∷ []) (before ++ remarks)

-- the remarks on a beginning, and then those after each move that is examined further
pub record AndBehind (At : List Remark → List Move → Type 0) (Behind : Move → List Remark → Type 0)
    (remarks : List Remark) : Type 0 where
  pub here : List Remark
  pub moves : List Move
  pub later : List Remark
  pub at : At here moves
  pub behind : InTurn Behind moves later
  pub joined : remarks ≡ here ++ later

-- the remarks on a beginning after which the defender is to move, and on its continuations, given the remarks after
-- each reply
abbrev pub AfterKey : (Placement → List Move → List Remark → Type 0) → Geometry → List (List Move) → Placement
    → List Move → List Remark → Type 0
AfterKey Replied g tree q b remarks =
    AndBehind (AtDefender g q tree b) (λ r. Replied (play g q r) (b ++ r ∷ [])) remarks

-- The remarks on a beginning that leads to p, where the attacker is to move with n moves left, and on all that is
-- longer. (A reply to a key leaves him one move at least.)
abbrev pub AreRemarks : Geometry → List (List Move) → ℕ → Placement → List Move → List Remark → Type 0
AreRemarks g tree zero p b remarks = ⊥
AreRemarks g tree (suc n) p b remarks = AndBehind (AtAttacker g p (suc n) tree b)
    (λ m. AfterKey (AreRemarks g tree n) g tree (play g p m) (b ++ m ∷ [])) remarks
