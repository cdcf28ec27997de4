-- The levels of a lister's stack, along a line.
use Rattle.std.specs.Prelude.{◌≡◌, ℕ, ◌≤◌, Bool, true, not, Option, Some, None, List, [], ◌∷◌, ◌++◌}
use Rattle.dw_board.specs.Geometry.{Geometry}
use Rattle.dw_board.specs.Placement.{Placement}
use Rattle.dw_moves.specs.Moves.{Move, Legal, play}
use Rattle.dw_moves.specs.Order.{Precedes, IsListOf}
use Rattle.dw_list.specs.inner.Ways.{IsNext, left_after}
use Rattle.dw_list.specs.LineStack.{Level}

-- the moves ahead are the last of all legal moves in order
abbrev pub AreLast : Geometry → Placement → Option (List Move) → Type 0
AreLast g q None = Unit {0}
AreLast g q (Some ahead) = (passed : List Move) × IsListOf (Precedes g q) (Legal g q) (passed ++ ahead)

-- the moves ahead are those after a move m in the list of all legal moves in order
abbrev pub AreBehind : Geometry → Placement → Move → Option (List Move) → Type 0
AreBehind g q m None = ⊥
AreBehind g q m (Some ahead) = (passed : List Move) × IsListOf (Precedes g q) (Legal g q) (passed ++ m ∷ ahead)

-- along these levels and moves, lines of p within n moves lead to a position q, with the attacker or the defender to
-- move and k moves left for the attacker
abbrev pub Leads : Geometry → Placement → ℕ → List Level → List Move → Bool → Placement → ℕ → Type 0
Leads g p n [] [] attacks q k = (attacks ≡ true) × (q ≡ p) × (k ≡ n)
Leads g p n (f ∷ outer) (m ∷ line) attacks q k =
    Leads g p n outer line f.attacks f.position f.left
    × IsNext g f.attacks f.position f.left m × AreBehind g f.position m f.ahead
    × (attacks ≡ not f.attacks) × (q ≡ play g f.position m) × (k ≡ left_after f.attacks f.left)
Leads g p n [] (m ∷ line) attacks q k = ⊥
Leads g p n (f ∷ outer) [] attacks q k = ⊥

-- these are levels along a line
abbrev pub AreLevels : Geometry → Placement → ℕ → List Level → List Move → Type 0
AreLevels g p n [] line = line ≡ []
AreLevels g p n (f ∷ outer) line = Leads g p n outer line f.attacks f.position f.left × AreLast g f.position f.ahead

-- 1 to 20 moves
abbrev pub IsFew : ℕ → Type 0
IsFew n = (1 ≤ n) × (n ≤ 20)
