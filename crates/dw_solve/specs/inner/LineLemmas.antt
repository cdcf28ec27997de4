-- Lines of a win.
use Rattle.std.proofs.Common.{ℕ, zero, suc, List, [], ◌∷◌, inl, refl, ◌↔◌}
use Rattle.dw_board.specs.Geometry.{Geometry}
use Rattle.dw_board.specs.Placement.{Placement}
use Rattle.dw_board.specs.Lists.{Member}
use Rattle.dw_moves.specs.Moves.{Move, Legal, play}
use Rattle.dw_moves.specs.Laws.{MovesListed}
use Rattle.dw_solve.specs.Wins.{Win, Lost}
use Rattle.dw_solve.specs.Lines.{Line}

-- after a move that wins, each reply leads on by some line
line_through : (g : Geometry) (p : Placement) (n : ℕ) (m : Move) → Legal g p m → Lost g (play g p m) n
    → ((r : Move) → Legal g (play g p m) r → (l : List Move) × Line g (play g (play g p m) r) n l) → (rs : List Move)
    → ((r : Move) → Member r rs ↔ Legal g (play g p m) r) → (l : List Move) × Line g p (suc n) l
line_through g p n m legal lost each [] exact = (m ∷ [], (legal, lost, λ r k. (exact r).1 k))
line_through g p n m legal lost each (r ∷ rs) exact =
    let reply = (exact r).0 (inl refl) in let k = each r reply in (m ∷ r ∷ k.0, (legal, lost, reply, k.1))

-- if the attacker wins, there is a line
pub win_line : MovesListed → (g : Geometry) (n : ℕ) (p : Placement) → Win g p n → (l : List Move) × Line g p n l
win_line listed g zero p w = absurd w
win_line listed g (suc n) p w =
    let q = play g p w.0 in
    line_through g p n w.0 w.1 w.2 (λ r legal. win_line listed g n (play g q r) (w.2 r legal)) (listed g q).0
    (listed g q).1

-- if there is a line, the attacker wins
pub line_wins : (g : Geometry) (p : Placement) (n : ℕ) (l : List Move) → Line g p n l → Win g p n
line_wins g p zero l h = absurd h
line_wins g p (suc n) [] h = absurd h
line_wins g p (suc n) (m ∷ []) h = (m, h.0, h.1)
line_wins g p (suc n) (m ∷ r ∷ l) h = (m, h.0, h.1)
