-- Lemmas on the problems that are chosen.
use Rattle.std.proofs.Common.{◌≡◌, ℕ, suc, ◌+◌, ◌≤◌, inl, inr, List, [], ◌∷◌, ◌++◌, length, Bool, true, false, Option}
use Rattle.std.proofs.Common.{Some, None, Err, refl, sym, ap, ◌∙◌, append_assoc, append-nil, arith, subst, cond, eqb}
use Rattle.std.proofs.Common.{ltb, length-append}
use Rattle.std.specs.List.{list_any}
use Rattle.std.proofs.lemmas.List.Elements.{filter-append}
use Rattle.std.proofs.lemmas.List.Folds.{list_any-append}
use Rattle.std.proofs.lemmas.Bool.{cases_Bool, eqb-true, ne_eqb, true≢false, or_left, or_right}
use Rattle.dw_board.specs.Geometry.{Geometry}
use Rattle.dw_notation.specs.TextLines.{Found}
use Rattle.dw_notation.specs.Problems.{Numbered, number_from, AreProblems}
use Rattle.dw_notation.specs.declared.problems.TheConstants.{MAX_PROBLEMS}
use Rattle.dw_notation.specs.declared.problems.ProblemFault.TheVariants.{TooManyProblems}
use Rattle.dw_notation.specs.declared.problems.Form.{Form}
use Rattle.dw_report.specs.Request.{number_is_chosen, number_is_asked, Request}
use Rattle.dw_report.specs.Report.{chosen, AreTexts, IsReportOn, heading}
use Rattle.dw_report.specs.Running.{up_to_asked, AreRefused, IsPartOn}

-- the problem that was asked for by its number
abbrev pub is_asked : Option ℕ → Numbered → Bool
is_asked only problem = number_is_asked only problem.number

-- problems are numbered one by one, behind so many
abbrev pub AreNumbered : ℕ → List Numbered → Type 0
AreNumbered n [] = Unit {0}
AreNumbered n (problem ∷ problems) = (problem.number ≡ n + 1) × AreNumbered (n + 1) problems

numbered_cases : (handed : ℕ) (room last : Bool) (here one : Numbered) (rest : List Numbered)
    → AreNumbered (handed + 1) rest → here.number ≡ handed + 1 → one.number ≡ handed + 1
    → AreNumbered handed (cond room (here ∷ rest) (cond last (one ∷ []) []))
numbered_cases handed true last here one rest are is it = (is, are)
numbered_cases handed false true here one rest are is it = (it, tt)
numbered_cases handed false false here one rest are is it = tt

pub number_from-AreNumbered : (handed : ℕ) (found : List Found) → AreNumbered handed (number_from handed found)
number_from-AreNumbered handed [] = tt
number_from-AreNumbered handed (f ∷ found) =
    numbered_cases handed (ltb handed MAX_PROBLEMS) (eqb handed MAX_PROBLEMS)
    (record { number = handed + 1; found = f }) (record { number = handed + 1; found = Err TooManyProblems })
    (number_from (handed + 1) found) (number_from-AreNumbered (handed + 1) found) refl refl

pub problems-AreNumbered : (g : Geometry) (form : Form) (over : Bool) (bytes : List ℕ) (problems : List Numbered)
    → AreProblems g form over bytes problems → AreNumbered 0 problems
problems-AreNumbered g form over bytes problems h = subst (AreNumbered 0) (sym h.numbers)
    (number_from-AreNumbered 0 h.found)

pub AreNumbered-behind : (n : ℕ) (xs ys : List Numbered) → AreNumbered n (xs ++ ys) → AreNumbered (n + length xs) ys
AreNumbered-behind n [] ys h = let e : n ≡ n + 0 = omega arith in subst (λ k. AreNumbered k ys) e h
AreNumbered-behind n (x ∷ xs) ys h = let e : n + 1 + length xs ≡ n + suc (length xs) = omega arith in
    subst (λ k. AreNumbered k ys) e (AreNumbered-behind (n + 1) xs ys h.1)

-- a problem behind others has the number that follows theirs
pub number_here : (front back : List Numbered) (problem : Numbered) → AreNumbered 0 (front ++ problem ∷ back)
    → problem.number ≡ length front + 1
number_here front back problem are =
    let here = AreNumbered-behind 0 front (problem ∷ back) are in
    omega (arith, here.0)

-- behind a number no problem has it
pub none_behind : (only n : ℕ) (problems : List Numbered) → only ≤ n → AreNumbered n problems
    → list_any (is_asked (Some only)) problems ≡ false
none_behind only n [] h are = refl
none_behind only n (p ∷ problems) h are =
    let apart : eqb p.number only ≡ false = ne_eqb _ _ (λ e. omega (arith, are.0)) in
    rw apart (none_behind only (n + 1) problems (omega arith) are.1)

-- where none is asked for, none is chosen
pub chosen-none : (only : ℕ) (problems : List Numbered) → list_any (is_asked (Some only)) problems ≡ false
    → chosen (Some only) problems ≡ []
chosen-none only [] h = refl
chosen-none only (p ∷ problems) h = elim (cases_Bool (eqb p.number only)) [
  | inl hit ↦ absurd (true≢false (sym (or_left _ _ hit) ∙ h))
  | inr other ↦ rw other (chosen-none only problems (sym (rw other refl) ∙ h))
]

pub up_to_asked-none : (only : Option ℕ) (problems : List Numbered) → list_any (is_asked only) problems ≡ false
    → up_to_asked only problems ≡ problems
up_to_asked-none only [] h = refl
up_to_asked-none only (p ∷ problems) h = elim (cases_Bool (is_asked only p)) [
  | inl hit ↦ absurd (true≢false (sym (or_left _ _ hit) ∙ h))
  | inr other ↦ rw other (ap (λ l. p ∷ l) (up_to_asked-none only problems (sym (rw other refl) ∙ h)))
]

pub up_to_asked-here : (only : Option ℕ) (front back : List Numbered) (p : Numbered) → list_any (is_asked only) front
    ≡ false → is_asked only p ≡ true
    → up_to_asked only (front ++ p ∷ back) ≡ front ++ p ∷ []
up_to_asked-here only [] back p h asked = rw asked refl
up_to_asked-here only (q ∷ front) back p h asked = elim (cases_Bool (is_asked only q)) [
  | inl hit ↦ absurd (true≢false (sym (or_left _ _ hit) ∙ h))
  | inr other ↦ rw other (ap (λ l. q ∷ l) (up_to_asked-here only front back p (sym (rw other refl) ∙ h) asked))
]

-- ---- one problem more
pub chosen-push : (only : Option ℕ) (front : List Numbered) (p : Numbered) → chosen only (front ++ p ∷ [])
    ≡ chosen only front ++ chosen only (p ∷ [])
chosen-push only front p = filter-append (λ q. number_is_chosen only q.number) front (p ∷ [])

pub any-push : (only : Option ℕ) (front : List Numbered) (p : Numbered) → list_any (is_asked only) front ≡ false
    → is_asked only p ≡ false → list_any (is_asked only) (front ++ p ∷ []) ≡ false
any-push only front p h other = list_any-append (is_asked only) front (p ∷ []) ∙ rw (h, other) refl

pub chosen-append : (only : Option ℕ) (front back : List Numbered) → chosen only (front ++ back) ≡ chosen only front
    ++ chosen only back
chosen-append only front back = filter-append (λ q. number_is_chosen only q.number) front back

texts-append : (g : Geometry) (request : Request) (front back : List Numbered) (text behind : List ℕ)
    → AreTexts g request front text → AreTexts g request back behind
    → AreTexts g request (front ++ back) (text ++ behind)
texts-append g request [] back text behind h k = subst (AreTexts g request back) (ap (λ z. z ++ behind) (sym h)) k
texts-append g request (p ∷ front) back text behind h k = (
  h.0,
  h.1 ++ behind,
  h.2,
  texts-append g request front back h.1 behind h.3 k,
  ap (λ z. z ++ behind) h.4 ∙ append_assoc h.0 h.1 behind,
)

-- the report on some problems and on those behind them
pub report_on-append : (g : Geometry) (s : Request) (front back : List Numbered) (text behind : List ℕ)
    → IsReportOn g s front text → IsReportOn g s back behind → IsReportOn g s (front ++ back) (text ++ behind)
report_on-append g s front back text behind h k = subst (λ l. AreTexts g s l (text ++ behind))
    (sym (chosen-append s.only front back)) (texts-append g s (chosen s.only front) (chosen s.only back) text behind h
    k)

-- a part of the text of one of some problems, behind the texts of those before them
pub part_on-behind : (g : Geometry) (s : Request) (number : ℕ) (front mid back all : List Numbered)
    (text out : List ℕ) → all ≡ (front ++ mid) ++ back → IsReportOn g s front text → IsPartOn g s number mid out
    → IsPartOn g s number all (text ++ out)
part_on-behind g s number front mid back all text out split h part = record {
  before = chosen s.only front ++ part.before;
  problem = part.problem;
  behind = part.behind ++ chosen s.only back;
  are =
      ap (chosen s.only) split ∙ (chosen-append s.only (front ++ mid) back
      ∙ (ap (λ l. l ++ chosen s.only back) (chosen-append s.only front mid
      ∙ (ap (λ l. chosen s.only front ++ l) part.are
      ∙ sym (append_assoc (chosen s.only front) part.before (part.problem ∷ part.behind))))
      ∙ append_assoc (chosen s.only front ++ part.before) (part.problem ∷ part.behind) (chosen s.only back)));
  here = part.here;
  texts = text ++ part.texts;
  whole = texts-append g s (chosen s.only front) part.before text part.texts h part.whole;
  lines = part.lines;
  further = part.further;
  is = ap (λ z. text ++ z) part.is
      ∙ sym (append_assoc text part.texts (heading g s.command part.problem ++ part.lines));
}

-- behind the problem that was asked for nothing is chosen
pub chosen-asked : (only : Option ℕ) (front back : List Numbered) (p : Numbered) → AreNumbered 0 (front ++ p ∷ back)
    → is_asked only p ≡ true → chosen only back ≡ []
chosen-asked None front back p are hit = cc
chosen-asked (Some only) front back p are hit =
    let here = AreNumbered-behind 0 front (p ∷ back) are in
    chosen-none only back (none_behind only (0 + length front + 1) back (omega (arith, here.0, eqb-true _ _ hit))
    here.1)

pub chosen-through : (only : Option ℕ) (front back : List Numbered) (p : Numbered) → AreNumbered 0 (front ++ p ∷ back)
    → is_asked only p ≡ true
    → chosen only (front ++ p ∷ back) ≡ chosen only (front ++ p ∷ [])
chosen-through only front back p are hit =
    ap (chosen only) (sym (append_assoc front (p ∷ []) back))
    ∙ (filter-append (λ q. number_is_chosen only q.number) (front ++ p ∷ []) back
    ∙ (ap (λ l. chosen only (front ++ p ∷ []) ++ l) (chosen-asked only front back p are hit)
    ∙ append-nil (chosen only (front ++ p ∷ []))))

-- so many and so many more are refused
pub refused-append : (g : Geometry) (r : Request) (xs ys : List Numbered) (m n : ℕ) → AreRefused g r xs m
    → AreRefused g r ys n → AreRefused g r (xs ++ ys) (m + n)
refused-append g r [] ys m n h k = let e : n ≡ m + n = omega (arith, h) in subst (AreRefused g r ys) e k
refused-append g r (x ∷ xs) ys m n (inl (is, rest, are, e)) k =
    let count : m + n ≡ (rest + n) + 1 = omega (arith, e) in
    inl (is, rest + n, refused-append g r xs ys rest n are k, count)
refused-append g r (x ∷ xs) ys m n (inr (none, are)) k = inr (none, refused-append g r xs ys m n are k)

pub refused-push : (g : Geometry) (r : Request) (front : List Numbered) (p : Numbered) (m n : ℕ)
    → AreRefused g r (chosen r.only front) m → AreRefused g r (chosen r.only (p ∷ [])) n
    → AreRefused g r (chosen r.only (front ++ p ∷ [])) (m + n)
refused-push g r front p m n h k = subst (λ z. AreRefused g r z (m + n)) (sym (chosen-push r.only front p))
    (refused-append g r (chosen r.only front) (chosen r.only (p ∷ [])) m n h k)

pub length-chosen-push : (only : Option ℕ) (front : List Numbered) (p : Numbered)
    → length (chosen only (front ++ p ∷ [])) ≡ length (chosen only front) + length (chosen only (p ∷ []))
length-chosen-push only front p = ap length (chosen-push only front p)
    ∙ length-append (chosen only front) (chosen only (p ∷ []))
