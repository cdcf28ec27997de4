-- The effects of the first moves of a position.
use Rattle.std.specs.Prelude.{◌≡◌, ℕ, ◌-◌, ◌<◌, ◌≤◌, List, [], ◌∷◌}
use Rattle.dw_board.specs.Geometry.{Geometry}
use Rattle.dw_board.specs.Placement.{Placement}
use Rattle.dw_board.specs.Lists.{Member}
use Rattle.dw_moves.specs.Moves.{Move, Legal, play}
use Rattle.dw_moves.specs.Order.{Precedes, IsListOf}
use Rattle.dw_verdict.specs.Verdict.{IsWinning, Refutes}
use Rattle.dw_parts.specs.Parts.{part_of}

-- a first move wins within k moves, or these replies refute it
pub data Effect : Type 0 where
  wins_in : (k : ℕ) → Effect
  refuted_by : (replies : List Move) → Effect

-- the least number of moves, up to n, within which a first move wins
pub record WinsFirstIn (g : Geometry) (p : Placement) (n : ℕ) (m : Move) (k : ℕ) : Type 0 where
  pub wins : IsWinning g p k m
  pub few : k ≤ n
  pub none_less : (j : ℕ) → j < k → IsWinning g p j m → ⊥

-- the replies that refute a first move: all after which there is no win within n - 1 moves, in order
abbrev pub Refutations : Geometry → Placement → ℕ → Move → List Move → Type 0
Refutations g p n m replies = IsListOf (Precedes g (play g p m)) (Refutes g (play g p m) (n - 1)) replies

-- The effect of a first move within n moves: it wins, within k moves and not within fewer; or it is legal and does not
-- win, and just these replies refute it.
abbrev pub HasEffect : Geometry → Placement → ℕ → Move → Effect → Type 0
HasEffect g p n m (wins_in k) = WinsFirstIn g p n m k
HasEffect g p n m (refuted_by replies) = Legal g p m × (IsWinning g p n m → ⊥) × Refutations g p n m replies

-- a position, and some of its first moves with their effects
pub record EffectsFrom : Type 0 where
  pub start : Placement
  pub effects : List (Move × Effect)

-- each of these moves has its effect, within some number of moves
abbrev pub HaveEffects : Geometry → Placement → List (Move × Effect) → Type 0
HaveEffects g p done = (n : ℕ) × ((one : Move × Effect) → Member one done → HasEffect g p n one.0 one.1)

-- the effects of these moves, in their order
abbrev pub AreEffects : Geometry → Placement → ℕ → List Move → List (Move × Effect) → Type 0
AreEffects g p n [] done = done ≡ []
AreEffects g p n (m ∷ moves) done = (effect : Effect) × (rest : List (Move × Effect)) × HasEffect g p n m effect
    × AreEffects g p n moves rest × (done ≡ (m, effect) ∷ rest)

-- the effects of the first moves of a part: of all legal moves, in order, the part i of m
abbrev pub AreFirstMoves : Geometry → Placement → (n i m : ℕ) → List (Move × Effect) → Type 0
AreFirstMoves g p n i m done =
    (moves : List Move) × IsListOf (Precedes g p) (Legal g p) moves × AreEffects g p n (part_of i m moves) done
