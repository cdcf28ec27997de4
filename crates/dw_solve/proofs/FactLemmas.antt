-- A closed content is true.
use Rattle.std.proofs.Common.{◌≡◌, ℕ, zero, suc, sym, subst, inl, inr, arith}
use Rattle.dw_board.specs.Geometry.{Geometry}
use Rattle.dw_board.specs.Placement.{Placement}
use Rattle.dw_moves.specs.Moves.{play}
use Rattle.dw_memo.specs.Content.{Content}
use Rattle.dw_solve.specs.Wins.{Win}
use Rattle.dw_solve.specs.Facts.{KnownWin, KnownFail, IsClosed, AreTrue}

closed_wins : (g : Geometry) (c : Content) → IsClosed g c → (w : ℕ) (p : Placement) → KnownWin c p w → Win g p w
closed_wins g c closed zero p h = let k = closed.wins h.entry h.held h.bound h.is in
    absurd (omega (arith, k.0, h.enough))
closed_wins g c closed (suc w) p h =
    let k = closed.wins h.entry h.held h.bound h.is in
    let here : Win g h.entry.position (suc w) = (
      k.1,
      k.2,
      λ r legal.
          let known = k.3 r legal in
          closed_wins g c closed w (play g (play g h.entry.position k.1) r)
          (record {
            entry = known.entry;
            held = known.held;
            about = known.about;
            bound = known.bound;
            is = known.is;
            enough = omega (arith, known.enough, h.enough);
          }),
    ) in
    subst (λ q. Win g q (suc w)) h.about here

closed_fails : (g : Geometry) (c : Content) → IsClosed g c → (f : ℕ) (p : Placement) → KnownFail c p f → Win g p f → ⊥
closed_fails g c closed zero p h w = w
closed_fails g c closed (suc f) p h w =
    let w' : Win g h.entry.position (suc f) = subst (λ q. Win g q (suc f)) (sym h.about) w in
    let k = closed.fails h.entry h.held h.bound h.is (omega (arith, h.enough)) w'.0 w'.1 in
    elim k.2 [
      | inl e ↦ let none : f ≡ 0 = omega (arith, h.enough, e) in
          subst (λ n. Win g (play g (play g h.entry.position w'.0) k.0) n) none (w'.2 k.0 k.1)
      | inr known ↦ closed_fails g c closed f (play g (play g h.entry.position w'.0) k.0) (record {
        entry = known.entry;
        held = known.held;
        about = known.about;
        bound = known.bound;
        is = known.is;
        enough = omega (arith, known.enough, h.enough);
      })
          (w'.2 k.0 k.1)
    ]

pub closed_true : (g : Geometry) (c : Content) → IsClosed g c → AreTrue g c
closed_true g c closed = record { fails = λ p f. closed_fails g c closed f p; wins = λ p w. closed_wins g c closed w p }
