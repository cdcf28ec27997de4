-- The moves that keep a win, the verdict on a problem, and its tries.
use Rattle.std.specs.Prelude.{◌≡◌, ℕ, ◌-◌, ◌*◌, ◌<◌, ◌≤◌, ◌⊎◌, List, [], ◌∷◌, ◌++◌, length, Option, Some, None}
use Rattle.std.proofs.Common.{zero, suc}
use Rattle.dw_board.specs.Geometry.{Geometry}
use Rattle.dw_board.specs.Placement.{Placement}
use Rattle.dw_moves.specs.Moves.{Move, Legal, play}
use Rattle.dw_moves.specs.Order.{Precedes, IsListOf}
use Rattle.dw_solve.specs.Wins.{Win, Lost}
use Rattle.dw_solve.specs.Lines.{Line, Before}

-- m is a first move that wins within n moves
abbrev pub IsWinning : Geometry → Placement → ℕ → Move → Type 0
IsWinning g p zero m = ⊥
IsWinning g p (suc n) m = Legal g p m × Lost g (play g p m) n

-- the keys of a problem: all moves that win within n, in order
abbrev pub Keys : Geometry → Placement → ℕ → List Move → Type 0
Keys g p n keys = IsListOf (Precedes g p) (IsWinning g p n) keys

-- the position after these moves
abbrev pub reach : Geometry → Placement → List Move → Placement
reach g p [] = p
reach g p (m ∷ moves) = reach g (play g p m) moves

-- a line begins with these moves, an even number above 0, and the attacker then has several keys: these choices
pub record IsDual (g : Geometry) (p : Placement) (n : ℕ) (beginning choices : List Move) : Type 0 where
  pub rest : List Move
  pub line : Line g p n (beginning ++ rest)
  pub turns : ℕ
  pub later : 0 < turns
  pub even : length beginning ≡ 2 * turns
  pub keys : Keys g (reach g p beginning) (n - turns) choices
  pub several : 2 ≤ length choices

-- n is the least number of moves within which there is a win
pub record IsShortest (g : Geometry) (p : Placement) (n : ℕ) : Type 0 where
  pub wins : Win g p n
  pub none_less : (k : ℕ) → k < n → Win g p k → ⊥

-- unsolvable, cooked, dual or sound, each with its moves
pub data Verdict : Type 0 where
  unsolvable : Verdict
  cooked : (shortest : ℕ) (keys : List Move) → Verdict
  dual : (beginning choices : List Move) → Verdict
  sound : (key : Move) → Verdict

-- one key, and no win in fewer moves
abbrev pub HasOneKey : Geometry → Placement → ℕ → Move → Type 0
HasOneKey g p n m = Keys g p n (m ∷ []) × (Win g p (n - 1) → ⊥)

-- the verdict on a problem: unsolvable, if there is no key; cooked, if there are several keys or a shorter win; dual,
-- if there is one key and choices later, the first of which is given; sound, if there is one key and no choice later
abbrev pub IsVerdict : Geometry → Placement → ℕ → Verdict → Type 0
IsVerdict g p n unsolvable = Keys g p n []
IsVerdict g p n (cooked shortest keys) =
    Keys g p n keys × (0 < length keys) × ((2 ≤ length keys) ⊎ Win g p (n - 1)) × IsShortest g p shortest
IsVerdict g p n (dual beginning choices) =
    ((m : Move) × HasOneKey g p n m) × IsDual g p n beginning choices
    × ((other others : List Move) → IsDual g p n other others → Before g p other beginning → ⊥)
IsVerdict g p n (sound key) =
    HasOneKey g p n key × ((beginning choices : List Move) → IsDual g p n beginning choices → ⊥)

-- a reply after which the attacker has no win within n
abbrev pub Refutes : Geometry → Placement → ℕ → Move → Type 0
Refutes g q n r = Legal g q r × (Win g (play g q r) n → ⊥)

-- the only reply that refutes
pub record IsRefutation (g : Geometry) (q : Placement) (n : ℕ) (r : Move) : Type 0 where
  pub refutes : Refutes g q n r
  pub only : (other : Move) → Refutes g q n other → other ≡ r

-- the only reply that refutes, or that there is not just one
abbrev pub FindsRefutation : Geometry → Placement → ℕ → Option Move → Type 0
FindsRefutation g q n None = (r : Move) → IsRefutation g q n r → ⊥
FindsRefutation g q n (Some r) = IsRefutation g q n r

-- a try: a legal move that does not win within n moves, and the only reply that refutes it
abbrev pub IsTry : Geometry → Placement → ℕ → Move × Move → Type 0
IsTry g p n t = Legal g p t.0 × (IsWinning g p n t.0 → ⊥) × IsRefutation g (play g p t.0) (n - 1) t.1

-- all tries, in the order of their first moves
abbrev pub Tries : Geometry → Placement → ℕ → List (Move × Move) → Type 0
Tries g p n tries = IsListOf (λ s t. Precedes g p s.0 t.0) (IsTry g p n) tries
