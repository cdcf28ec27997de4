-- The moves of effects are legal.
use Rattle.std.proofs.Common.{◌≡◌, ℕ, zero, suc, List, sym, subst}
use Rattle.dw_board.specs.Geometry.{Geometry}
use Rattle.dw_board.specs.Lists.{Member}
use Rattle.dw_board.specs.Placement.{Placement}
use Rattle.dw_moves.specs.Moves.{Move, Legal, play}
use Rattle.dw_first_moves.specs.FirstMoves.{Effect, wins_in, refuted_by, HasEffect}

-- a move that has an effect is legal
pub is_legal : (g : Geometry) (p : Placement) (n : ℕ) (m : Move) (effect : Effect) → HasEffect g p n m effect
    → Legal g p m
is_legal g p n m (wins_in zero) h = absurd h.wins
is_legal g p n m (wins_in (suc k)) h = h.wins.0
is_legal g p n m (refuted_by replies) h = h.0

-- a reply that refutes is legal
pub reply_legal : (g : Geometry) (p after : Placement) (n : ℕ) (m : Move) (effect : Effect) (replies all : List Move)
    → after ≡ play g p m → refuted_by replies ≡ effect → all ≡ replies → HasEffect g p n m effect → (r : Move)
    → Member r all → Legal g after r
reply_legal g p after n m effect replies all there is same has r member =
    let here = subst (HasEffect g p n m) (sym is) has in
    subst (λ z. Legal g z r) (sym there) ((here.2.exactly r).0 (subst (Member r) same member)).0
