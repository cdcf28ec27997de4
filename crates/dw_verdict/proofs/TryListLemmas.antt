-- The tries gathered from all legal moves.
use Rattle.std.proofs.Common.{ℕ, ◌-◌, ◌≤◌, List, length, map}
use Rattle.dw_board.specs.Geometry.{Geometry}
use Rattle.dw_board.specs.Placement.{Placement}
use Rattle.dw_moves.specs.Moves.{Move, Legal, play}
use Rattle.dw_moves.specs.Order.{Precedes, IsListOf}
use Rattle.dw_verdict.specs.Verdict.{IsRefutation, Tries}
use Rattle.dw_verdict.specs.inner.GatheredLemmas.{GatheredTo, to_all}
use Rattle.dw_verdict.specs.inner.WinningLemmas.{refuted_fails}

abbrev pub TriesTo : {V : Type 0} → (V → Move) → Geometry → Placement → ℕ → List V → ℕ → List (Move × Move) → Type 0
TriesTo step g p n xs i ts = GatheredTo step (Precedes g p) (λ (t : Move × Move). t.0)
    (λ (t : Move × Move). IsRefutation g (play g p t.0) (n - 1) t.1) xs i ts

pub tries_whole : {V : Type 0} (step : V → Move) (g : Geometry) (p : Placement) (n : ℕ) (xs : List V) (i : ℕ)
    (ts : List (Move × Move)) → length xs ≤ i → IsListOf (Precedes g p) (Legal g p) (map step xs)
    → TriesTo step g p n xs i ts → Tries g p n ts
tries_whole step g p n xs i ts end all h =
    let whole = to_all step (Precedes g p) (λ (t : Move × Move). t.0) (λ (t : Move × Move). IsRefutation g
    (play g p t.0) (n - 1) t.1) (Legal g p) xs i ts end all h in
    record {
      ascending = whole.ascending;
      exactly = λ t. (
        (λ m. let k = (whole.exactly t).0 m in (k.0, refuted_fails g p n t.0 t.1 k.1.refutes, k.1)),
        (λ k. (whole.exactly t).1 (k.0, k.2)),
      );
    }
