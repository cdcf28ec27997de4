-- Lemmas on the numbers of problems.
use Rattle.std.proofs.Common.{◌≡◌, ℕ, ◌+◌, ◌<◌, ◌≤◌, List, [], ◌∷◌, Err, nat_lt, if◌then◌else◌, refl, arith, inl, inr}
use Rattle.std.proofs.lemmas.Bool.{cases_lt, lt-ltb, le-ltb, ne_eqb}
use Rattle.dw_notation.specs.TextLines.{Found}
use Rattle.dw_notation.specs.Problems.{number_from, numbered}
use Rattle.dw_notation.specs.declared.problems.TheConstants.{MAX_PROBLEMS}
use Rattle.dw_notation.specs.declared.problems.Problem.{Problem}
use Rattle.dw_notation.specs.declared.problems.ProblemFault.TheVariants.{TooManyProblems}

pub number_from-full : (more : List Found) → number_from 1000001 more ≡ []
number_from-full [] = refl
number_from-full (found ∷ more) = refl

number_from-one : (handed : ℕ) (found : Found) (more : List Found) → handed ≤ 1000000 → number_from handed (found ∷
    more) ≡ record { number = handed + 1; found = if nat_lt handed MAX_PROBLEMS then found else Err TooManyProblems }
    ∷ number_from (handed + 1) more
number_from-one handed found more h = elim (cases_lt handed 1000000) [
  | inl less ↦ rw (lt-ltb handed 1000000 less) refl
  | inr full ↦ let e : handed ≡ 1000000 = omega (arith, h, full) in rw e (rw (number_from-full more) refl)
]

-- a problem that is handed out under the next number
pub number_from-problem : {B : Type 0} (handed next : ℕ) (found : Found) (problem : Problem B) (more : List Found)
    → handed ≤ 1000000 → problem.number ≡ handed + 1
    → problem.found ≡ (if nat_lt handed MAX_PROBLEMS then found else Err TooManyProblems) → next ≡ handed + 1
    → number_from handed (found ∷ more) ≡ numbered problem ∷ number_from next more
number_from-problem handed next found problem more h number says counted =
    rw (number, says, counted) (number_from-one handed found more h)

pub number_from-over : (handed : ℕ) (found : List Found) → 1000000 < handed → number_from handed found ≡ []
number_from-over handed [] h = refl
number_from-over handed (f ∷ found) h = rw (
  le-ltb handed 1000000 (omega arith),
  ne_eqb handed 1000000 (λ e. omega (arith, e)),
) refl
