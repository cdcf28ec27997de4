-- Lemmas on what a call for the next problem makes of a run so far.
use Rattle.std.proofs.Common.{◌≡◌, ◌∙◌, ℕ, ◌+◌, ◌≤◌, List, [], ◌∷◌, length, refl, sym, ap, subst, true, false, Bool}
use Rattle.std.proofs.Common.{add-zero, Option, Some, None, Result, Ok, Err}
use Rattle.std.specs.Result.{IsErr}
use Rattle.dw_board.specs.Geometry.{Geometry}
use Rattle.dw_notation.specs.Problems.{Numbered, numbered}
use Rattle.dw_notation.specs.Reading.{Reader, NextGives, IsCounted, HasStopped}
use Rattle.dw_notation.specs.Streams.{Supply, MeetsEnd}
use Rattle.dw_notation.specs.declared.problems.Problem.{Problem}
use Rattle.dw_notation.specs.declared.problems.ReadFault.{ReadFault}
use Rattle.dw_notation.specs.declared.problems.TheConstants.{MAX_PROBLEMS}
use Rattle.dw_notation.specs.inner.Writes.{Writes}
use Rattle.dw_report.specs.Request.{number_is_chosen, Request}
use Rattle.dw_report.specs.Report.{IsReportOn}
use Rattle.dw_report.specs.Running.{Runs, IsPartOn, AreRefused}
use Rattle.dw_report.specs.inner.Running.{TextEnds, CountsOne, ended_by}
use Rattle.dw_report.specs.declared.problem.TextFault.{TextFault}
use Rattle.dw_report.specs.declared.settings.Summary.{Summary}
use Rattle.dw_report.specs.declared.settings.RunFault.TheVariants.{Read}
use Rattle.dw_report.proofs.RunLemmas.{SoFar, SoFar-more, SoFar-end, SoFar-read, SoFar-fault, More, HaveTexts}
use Rattle.dw_report.proofs.RunLemmas.{unmet_before}
use Rattle.dw_report.proofs.WritingLemmas.{chosen_none}

-- no problem is left
pub next_none : {B : Type 0} (g : Geometry) (request : Request) (before now after : Supply) (taken mid : List ℕ)
    (old new : Reader) (summary : Summary) (o : Option (Problem B)) → o ≡ None → NextGives g now after old new (Ok o)
    → IsCounted old new (Ok o) → SoFar g request before now taken mid old summary
    → (old.met_end ≡ true → new.met_end ≡ true) → (new.met_end ≡ true → MeetsEnd before after)
    → old.handed ≤ MAX_PROBLEMS + 1
    → Runs g request before after taken mid (Ok summary)
next_none {B} g request before now after taken mid old new summary o e given counted so_far stays over bound =
    let next = subst (λ (z : Option (Problem B)). NextGives {B = B} g now after old new (Ok z)) e given in
    let same = subst (λ (z : Option (Problem B)). IsCounted {B = B} old new (Ok z)) e counted in
    SoFar-end g request before now after taken mid old new summary next.read so_far next.took next.still next.need
    (record { none = next.gives.0; why = next.gives.2 }) stays over (same.0 ∙ add-zero old.handed) bound

-- the source failed
pub next_failed : {B : Type 0} (g : Geometry) (request : Request) (before now after : Supply) (taken mid : List ℕ)
    (old new : Reader) (summary : Summary) (r : Result (Option (Problem B)) ReadFault) (fault : ReadFault)
    (is_failed : Bool) → r ≡ Err fault → NextGives g now after old new r → (IsErr r → HasStopped is_failed new)
    → (old.met_end ≡ true → new.met_end ≡ true) → SoFar g request before now taken mid old summary
    → Runs g request before after taken mid (Err Read)
next_failed {B} g request before now after taken mid old new summary r fault is_failed e given stopped stays so_far =
    let next = subst (NextGives {B = B} g now after old new) e given in
    let stop = subst (λ (z : Result (Option (Problem B)) ReadFault). IsErr z → HasStopped is_failed new) e stopped
    refl in
    SoFar-read g request before now after taken mid old summary next.read so_far next.took next.gives.0
    (unmet_before old new stays stop.unmet)

-- a problem was handed out
pub counted_one : {B : Type 0} (old new : Reader) (o : Option (Problem B)) (p : Problem B) → o ≡ Some p
    → IsCounted old new (Ok o) → (new.handed ≡ old.handed + 1) × (old.handed ≤ MAX_PROBLEMS)
counted_one {B} old new o p e counted =
    let one = subst (λ (z : Option (Problem B)). IsCounted {B = B} old new (Ok z)) e counted in (one.0, one.1.1)

-- and its text was written
pub next_more : {B : Type 0} (g : Geometry) (request : Request) (before now after : Supply)
    (taken mid written : List ℕ) (old new : Reader) (summary counted : Summary) (o : Option (Problem B)) (p : Problem B)
    → o ≡ Some p → NextGives g now after old new (Ok o) → IsCounted old new (Ok o)
    → SoFar g request before now taken mid old summary → (old.met_end ≡ true → new.met_end ≡ true)
    → Writes (IsReportOn g request (numbered p ∷ [])) mid written → CountsOne g request summary counted (numbered p)
    → More g request before after taken written new counted (numbered p)
next_more {B} g request before now after taken mid written old new summary counted o p e given count so_far stays wrote
    counts =
    let next = subst (λ (z : Option (Problem B)). NextGives {B = B} g now after old new (Ok z)) e given in
    SoFar-more g request before now after taken mid written old new summary counted (numbered p) next.read so_far
    next.took next.still next.need next.gives stays (counted_one old new o p e count).0 wrote counts

-- or not to its end
pub next_fault : {B : Type 0} (g : Geometry) (request : Request) (before now after : Supply)
    (taken mid written : List ℕ) (old new : Reader) (summary : Summary) (o : Option (Problem B)) (p : Problem B)
    (expanded : ℕ) (r : Result Summary TextFault) (fault : TextFault) → o ≡ Some p → r ≡ Err fault
    → NextGives g now after old new (Ok o) → SoFar g request before now taken mid old summary
    → (old.met_end ≡ true → new.met_end ≡ true) → (new.met_end ≡ true → MeetsEnd before after) → HaveTexts g request
    → TextEnds (IsReportOn g request (numbered p ∷ [])) (IsPartOn g request p.number (numbered p ∷ [])) mid written r
    → Runs g request before after taken written (Err (ended_by fault expanded))
next_fault {B} g request before now after taken mid written old new summary o p expanded r fault e is given so_far stays
    over exist text =
    let next = subst (λ (z : Option (Problem B)). NextGives {B = B} g now after old new (Ok z)) e given in
    SoFar-fault g request before now after taken mid written old new summary (numbered p) next.read expanded fault
    so_far next.took next.still next.need next.gives stays over exist (subst (TextEnds (IsReportOn g request
    (numbered p ∷ [])) (IsPartOn g request p.number (numbered p ∷ [])) mid written) is text)

-- a problem more that is not chosen
pub counts_passed : (g : Geometry) (request : Request) (old new : Summary) (p : Numbered)
    → number_is_chosen request.only p.number ≡ false → new.problems ≡ old.problems + 1 → new.shown ≡ old.shown
    → new.refused ≡ old.refused → CountsOne g request old new p
counts_passed g request old new p pass read shown count =
    let none = chosen_none request.only p pass in
    record {
      read = read;
      shown =
          shown ∙ (sym (add-zero old.shown) ∙ sym (ap (λ (z : List Numbered). old.shown + length z) none));
      refused = (0, subst (λ z. AreRefused g request z 0) (sym none) refl, count ∙ sym (add-zero old.refused));
    }
