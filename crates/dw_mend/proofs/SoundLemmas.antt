-- A position that is sound has a win, and its key is legal.
use Rattle.std.proofs.Common.{◌≡◌, ℕ, zero, suc, Option, Some, None, refl, subst, inl}
use Rattle.std.specs.Prelude.{MatchOption}
use Rattle.dw_board.specs.Geometry.{Geometry, IsBoard}
use Rattle.dw_board.specs.Placement.{Placement}
use Rattle.dw_moves.specs.Moves.{Move, Legal}
use Rattle.dw_solve.specs.Wins.{Win}
use Rattle.dw_verdict.specs.Verdict.{Verdict, IsWinning, IsVerdict, sound}
use Rattle.dw_verdict.specs.VerdictLaws.{OneVerdict}

-- a move that wins is a win
winning_wins : (g : Geometry) (p : Placement) (n : ℕ) (m : Move) → IsWinning g p n m → Win g p n
winning_wins g p zero m is = absurd is
winning_wins g p (suc n) m is = (m, is.0, is.1)

pub sound_wins : (g : Geometry) (p : Placement) (n : ℕ) (m : Move) → IsVerdict g p n (sound m) → Win g p n
sound_wins g p n m is = winning_wins g p n m ((is.0.0.exactly m).0 (inl refl))

winning_legal : (g : Geometry) (p : Placement) (n : ℕ) (m : Move) → IsWinning g p n m → Legal g p m
winning_legal g p zero m is = absurd is
winning_legal g p (suc n) m is = is.0

pub sound_legal : (g : Geometry) (p : Placement) (n : ℕ) (m : Move) → IsVerdict g p n (sound m) → Legal g p m
sound_legal g p n m is = winning_legal g p n m ((is.0.0.exactly m).0 (inl refl))

-- what a verdict says of the key
pub key_so : (g : Geometry) → IsBoard g → OneVerdict → (p : Placement) (n : ℕ) (v : Verdict) (key : Option Move)
    → IsVerdict g p n v → MatchOption key ((m : Move) → v ≡ sound m → ⊥) (λ m. v ≡ sound m)
    → MatchOption key ((m : Move) → IsVerdict g p n (sound m) → ⊥) (λ m. IsVerdict g p n (sound m))
key_so g board law p n v None is none = λ m other. none m (law.only g board p n v (sound m) is other)
key_so g board law p n v (Some m) is one = subst (IsVerdict g p n) one is
