-- What is known once it is known whether there is a win, and what it means that a position stays undecided, where it
-- does not.
use Rattle.std.proofs.Common.{◌≡◌, ℕ, ◌+◌, ◌≤◌, inl, inr, Option, Some, None, Result, Ok, Err}
use Rattle.std.proofs.Common.{true, eqb, ap, ◌∙◌, arith}
use Rattle.std.specs.Option.{option_eq}
use Rattle.std.proofs.lemmas.Bool.{cases_lt, eqb-true}
use Rattle.dw_board.specs.Geometry.{Geometry}
use Rattle.dw_solve.specs.Certificates.{SaysLeast}
use Rattle.dw_solve.specs.Facts.{AreTrue, IsDecided}
use Rattle.dw_solve.specs.Wins.{Win}
use Rattle.dw_study.specs.Finding.{IsJudgedAt}
use Rattle.std.specs.Prelude.{IfSome}
use Rattle.dw_study.specs.inner.Looking.{lowered}
use Rattle.std.specs.Result.{IsErrAnd}
use Rattle.dw_board.specs.Placement.{Placement}
use Rattle.dw_memo.specs.Content.{Content}
use Rattle.dw_solve.specs.declared.stop.Stop.{Stop}
use Rattle.dw_solve.specs.Solving.{Solving}
use Rattle.dw_study.specs.declared.finding.Finding as findings
use Rattle.dw_study.specs.declared.finding.Finding.TheVariants.{Undecided}
use Rattle.dw_study.specs.Telling.{StaysOpen}

pub no_lower : {B : Type 0} (n k : ℕ) (r : Result (findings.Finding B) Stop) → r ≡ Ok (Undecided n)
    → r ≡ Ok (Undecided k) → n ≡ k
no_lower n k r is same = cc

module _ {M B : Type 0} (content : M → Content) (p : Placement) (each : Option ℕ) (a b : Solving M) where
  -- after a stop nothing is undecided
  pub stays_stopped : (r : Result (findings.Finding B) Stop) (e : Stop) → IsErrAnd r (λ d. d ≡ e)
      → StaysOpen content p each a b r
  stays_stopped (Ok x) e is = absurd is
  stays_stopped (Err d) e is = record { undecided = λ k same. cc; known = λ j k says same. cc }

-- no more are expanded than a lowered limit allows
pub few_within : (each : Option ℕ) (limit before after : ℕ) → after ≤ lowered each limit before
    → IfSome each (λ bound. after ≤ before + bound)
few_within None limit before after within = tt
few_within (Some bound) limit before after within = omega (arith, within)

-- there is a bound, and it is this number
pub each_is : (each : Option ℕ) (spent same : ℕ) → option_eq eqb each (Some spent) ≡ true → spent ≡ same
    → each ≡ Some same
each_is None spent same is e = absurd (cc)
each_is (Some bound) spent same is e = ap Some (eqb-true bound spent is ∙ e)

-- if there is a win within k moves, a memo that decides k decides each greater number
decided_above : (g : Geometry) (c : Content) (p : Placement) (k j : ℕ) → AreTrue g c → Win g p k → k ≤ j
    → IsDecided c p k → IsDecided c p j
decided_above g c p k j right win more (inl known) = inl record {
  entry = known.entry;
  held = known.held;
  about = known.about;
  bound = known.bound;
  is = known.is;
  enough = omega (arith, more, known.enough);
}
decided_above g c p k j right win more (inr fails) = absurd (right.fails p k fails win)

-- a memo that decides each number up to the least with a win decides each number
pub says_on : (g : Geometry) (c : Content) (p : Placement) (most k n : ℕ) → AreTrue g c → n ≤ most
    → IsJudgedAt g p most k → SaysLeast c p k → SaysLeast c p n
says_on g c p most k n right within (inl found) says = λ j low high. elim (cases_lt k j) [
  | inl above ↦ decided_above g c p k j right found.2 (omega (arith, above)) (says k found.0 (omega arith))
  | inr below ↦ says j low below
]
says_on g c p most k n right within (inr none) says = λ j low high. says j low (omega (arith, high, within, none.1))
