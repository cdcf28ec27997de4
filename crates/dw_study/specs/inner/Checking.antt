-- How an author's solution is checked.
use Rattle.std.specs.Prelude.{◌≡◌, ℕ, ◌≤◌, Bool, true, false, not, Some, List, [], ◌∷◌, ◌++◌, map, slice_get, Option}
use Rattle.std.specs.Prelude.{None}
use Rattle.std.proofs.Common.{zero, suc}
use Rattle.dw_board.specs.Geometry.{Geometry}
use Rattle.dw_board.specs.Placement.{Placement}
use Rattle.dw_board.specs.Lists.{Member}
use Rattle.dw_moves.specs.Moves.{Move, Legal, play}
use Rattle.dw_moves.specs.Order.{Precedes, IsListOf}
use Rattle.dw_solve.specs.Wins.{Lost}
use Rattle.dw_verdict.specs.Verdict.{IsWinning}
use Rattle.dw_games.specs.Play.{after}
use Rattle.dw_games.specs.Walk.{CanFollow, PlayedTree, beginning_at, place_of}
use Rattle.dw_study.specs.declared.branch.CheckNode.{CheckNode}
use Rattle.dw_study.specs.declared.branch.Child.{Child}
use Rattle.dw_study.specs.declared.branch.Seen.{Seen}
use Rattle.dw_study.specs.declared.remark.Remark.TheVariants.{Fails}
use Rattle.dw_games.specs.declared.branches.Node.{Node}
use Rattle.dw_study.specs.Remarks.{Remark, GoesOnBy, StandsBefore, IsFirstRefutation, IsFailing, AtAttacker, AtDefender}
use Rattle.dw_study.specs.Remarks.{AfterKey, AreRemarks}
use Rattle.dw_study.specs.Telling.{Say}

-- a place of the check is that of this beginning in a tree, with the position after it
pub record IsAt {B : Type 0} (g : Geometry) (tree : PlayedTree) (spot : CheckNode B) (b : List Move) : Type 0 where
  pub there : beginning_at tree.paths (place_of spot.node) ≡ Some b
  pub position : spot.position ≡ after g tree.start b

-- a node of a tree with its move, which can be played there, and with the position after it
abbrev pub IsNodeOf : {B : Type 0} → Geometry → PlayedTree → Node → Child B → Type 0
IsNodeOf g tree node child = (b : List Move) × (child.node ≡ node)
    × (slice_get tree.paths node.0 ≡ Some (b ++ child.mv ∷ []))
    × CanFollow g tree.start b child.mv × (child.position ≡ after g tree.start (b ++ child.mv ∷ []))

-- a node after a beginning, the move before it, and the position after that move
pub record IsChild {B : Type 0} (g : Geometry) (p : Placement) (tree : List (List Move)) (b : List Move)
    (child : Child B) : Type 0 where
  pub there : slice_get tree child.node.0 ≡ Some (b ++ child.mv ∷ [])
  pub position : child.position ≡ play g p child.mv

-- the nodes after a beginning, in the tree's order
pub record AreChildren {B : Type 0} (g : Geometry) (p : Placement) (tree : List (List Move)) (b : List Move)
    (children : List (Child B)) : Type 0 where
  pub in_order : IsListOf (StandsBefore tree b) (GoesOnBy g p tree b) (map (λ c. c.mv) children)
  pub each : (c : Child B) → Member c children → IsChild g p tree b c

-- the legal moves that are none of these, in order
abbrev pub AreOthers : Geometry → Placement → List Move → List Move → Type 0
AreOthers g p moves others = IsListOf (Precedes g p) (λ m. Legal g p m × (Member m moves → ⊥)) others

-- those of them that win
abbrev pub AreOtherKeys : Geometry → Placement → ℕ → List Move → List Move → Type 0
AreOtherKeys g p n moves keys = IsListOf (Precedes g p) (λ m. IsWinning g p n m × (Member m moves → ⊥)) keys

-- the children that win are followed, and there is a remark on each that fails
pub record IsSorted {B : Type 0} (g : Geometry) (p : Placement) (n : ℕ) (tree : List (List Move)) (b : List Move)
    (node : Option Node) (children : List (Child B)) (seen : Seen B) : Type 0 where
  pub failing : List (Move × Move)
  pub fail : IsListOf (λ s t. StandsBefore tree b s.0 t.0) (IsFailing g p n tree b) failing
  pub said : seen.remarks.items ≡ map (λ t. Fails node t.0 t.1) failing
  pub win : IsListOf (StandsBefore tree b) (λ k. GoesOnBy g p tree b k × IsWinning g p n k)
      (map (λ c. c.mv) seen.followed.items)
  pub each : (c : Child B) → Member c seen.followed.items → Member c children

-- the first reply after which the attacker has no win, or that he has one after each
abbrev pub FindsFirst : Geometry → Placement → ℕ → Option Move → Type 0
FindsFirst g q n None = Lost g q n
FindsFirst g q n (Some reply) = IsFirstRefutation g q n reply

-- the remarks where the attacker (true) or the defender (false) is to move, and the moves after which more is examined
abbrev pub At : Geometry → List (List Move) → Bool → ℕ → Placement → List Move → List Remark → List Move → Type 0
At g tree true n p b here moves = AtAttacker g p n tree b here moves
At g tree false n q b here moves = AtDefender g q tree b here moves

abbrev pub Behind : Geometry → List (List Move) → Bool → ℕ → Placement → List Move → List Remark → Type 0
Behind g tree true n p b remarks = AreRemarks g tree n p b remarks
Behind g tree false n q b remarks = AfterKey (AreRemarks g tree n) g tree q b remarks

-- the condition at each place: the attacker has a move left, or the defender has lost
abbrev pub IsKept : Geometry → Bool → ℕ → Placement → Type 0
IsKept g true n p = 1 ≤ n
IsKept g false n q = Lost g q n

-- how many moves the attacker has left after a move
abbrev pub left_after : Bool → ℕ → ℕ
left_after true zero = zero
left_after true (suc n) = n
left_after false n = n

-- the remarks on a beginning are right, and so are the children that are examined further
pub record IsSeen {B : Type 0} (g : Geometry) (tree : List (List Move)) (attacks : Bool) (n : ℕ) (p : Placement)
    (b : List Move) (seen : Seen B) : Type 0 where
  pub here : Say tree seen.remarks.items (λ here. At g tree attacks n p b here (map (λ c. c.mv) seen.followed.items))
  pub each : (c : Child B) → Member c seen.followed.items → IsChild g p tree b c
  pub kept : (m : Move) → Member m (map (λ c. c.mv) seen.followed.items)
      → Legal g p m × IsKept g (not attacks) (left_after attacks n) (play g p m)
