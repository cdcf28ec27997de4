-- How lines go on from a position on their way, where the attacker (true) or the defender (false) is to move.
use Rattle.std.specs.Prelude.{◌≡◌, ℕ, Bool, true, false, not, List, [], ◌∷◌, ◌++◌}
use Rattle.std.proofs.Common.{zero, suc}
use Rattle.dw_board.specs.Geometry.{Geometry}
use Rattle.dw_board.specs.Placement.{Placement}
use Rattle.dw_moves.specs.Moves.{Move, Legal, play, NoMove}
use Rattle.dw_moves.specs.Order.{IsListOf}
use Rattle.dw_solve.specs.Wins.{Lost}
use Rattle.dw_solve.specs.Lines.{Line, Before}
use Rattle.dw_list.specs.LineStack.{BeginsAmong}

-- a line goes on with these moves, where the attacker has n moves left
abbrev pub GoesOn : Geometry → Bool → Placement → ℕ → List Move → Type 0
GoesOn g true p n l = Line g p n l
GoesOn g false q n [] = NoMove g q
GoesOn g false q n (r ∷ l) = Legal g q r × Line g (play g q r) n l

-- a move with which lines go on: any legal one of the defender, and one of the attacker that keeps a win
abbrev pub IsNext : Geometry → Bool → Placement → ℕ → Move → Type 0
IsNext g true p zero m = ⊥
IsNext g true p (suc n) m = Legal g p m × Lost g (play g p m) n
IsNext g false q n r = Legal g q r

-- the number of moves that the attacker has left after a move
abbrev pub left_after : Bool → ℕ → ℕ
left_after true zero = zero
left_after true (suc n) = n
left_after false n = n

-- all ways in which a line goes on, in ascending order
abbrev pub AreWays : Geometry → Bool → Placement → ℕ → List (List Move) → Type 0
AreWays g attacks p n lists = IsListOf (Before g p) (GoesOn g attacks p n) lists

-- all ways that begin with one of these moves, in ascending order
abbrev pub AreWaysAmong : Geometry → Bool → Placement → ℕ → List Move → List (List Move) → Type 0
AreWaysAmong g attacks p n moves lists = IsListOf (Before g p) (λ l. GoesOn g attacks p n l × BeginsAmong moves l) lists

-- after a move, with n moves left for the attacker: if it was his, the defender has lost
abbrev pub Keeps : Geometry → Bool → Placement → ℕ → Type 0
Keeps g true q n = Lost g q n
Keeps g false p n = Unit {0}

-- the ways through one move of the side to move, with n moves left for the attacker after it
abbrev pub IsThrough : Geometry → Bool → Placement → ℕ → Move → List Move → Type 0
IsThrough g attacks p n m l =
    (rest : List Move) × (l ≡ m ∷ rest) × Keeps g attacks (play g p m) n × GoesOn g (not attacks) (play g p m) n rest

abbrev pub AreWaysThrough : Geometry → Bool → Placement → ℕ → Move → List (List Move) → Type 0
AreWaysThrough g attacks p n m lists = IsListOf (Before g p) (IsThrough g attacks p n m) lists

-- to these lists the ways through one move were added
pub record AreAdded (g : Geometry) (attacks : Bool) (p : Placement) (n : ℕ) (m : Move)
    (old new : List (List Move)) : Type 0 where
  pub added : List (List Move)
  pub ways : AreWaysThrough g attacks p n m added
  pub are : new ≡ old ++ added
