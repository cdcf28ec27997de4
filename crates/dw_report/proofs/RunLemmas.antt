-- Lemmas on a run so far.
use Rattle.std.proofs.Common.{◌≡◌, ℕ, ◌+◌, ◌≤◌, inl, inr, ◌⊎◌, List, [], ◌∷◌, ◌++◌, Bool, true, false, Option, Some}
use Rattle.std.proofs.Common.{None, Ok, Err, refl, sym, ap, ◌∙◌, append_assoc, append-nil, arith, subst, length}
use Rattle.std.proofs.Common.{length-append, Result, is_err, ◌||◌, cond, ◌↔◌, IsTrue, if◌then◌else◌, add-zero}
use Rattle.std.specs.List.{list_any}
use Rattle.std.proofs.lemmas.Bool.{cases_Bool, true≢false, eqb-true}
use Rattle.dw_board.specs.Geometry.{Geometry}
use Rattle.dw_notation.specs.Problems.{Numbered, AreProblems}
use Rattle.dw_notation.specs.Reading.{Reader, ReadsAtNeed}
use Rattle.dw_notation.specs.Streams.{Supply, Reads, MeetsEnd}
use Rattle.dw_notation.specs.inner.StreamLemmas.{Reads-trans, Appends-trans, Appends-nil}
use Rattle.dw_notation.specs.declared.problems.Form.{Form}
use Rattle.dw_notation.specs.declared.problems.TheConstants.{MAX_PROBLEMS}
use Rattle.dw_notation.specs.Writes.{IsBeginning}
use Rattle.dw_notation.specs.inner.Writes.{Writes, WritesShort}
use Rattle.dw_report.specs.Request.{number_is_chosen, number_is_asked, Request}
use Rattle.dw_report.specs.Report.{AreTexts, IsReport, IsReportOn, chosen}
use Rattle.dw_report.specs.Running.{Runs, IsWhole, IsPart, IsPartOn, IsRefused, AreRefused, ReadsUpTo}
use Rattle.dw_report.specs.inner.Running.{TextEnds, CountsOne, ended_by}
use Rattle.dw_report.specs.declared.problem.TextFault.{TextFault}
use Rattle.dw_solve.specs.declared.stop.Stop.{Stop}
use Rattle.dw_report.specs.declared.settings.Summary.{Summary}
use Rattle.dw_report.specs.declared.settings.RunFault.TheVariants.{Stopped, Read, Write}
use Rattle.dw_report.proofs.ChosenLemmas.{is_asked, AreNumbered, problems-AreNumbered, number_here, up_to_asked-none}
use Rattle.dw_report.proofs.ChosenLemmas.{up_to_asked-here, chosen-through, any-push, report_on-append, part_on-behind}
use Rattle.dw_report.proofs.ChosenLemmas.{refused-push, length-chosen-push}
use Rattle.dw_report.proofs.HandedLemmas.{HasHanded, GivesOne, GivesNone, HasHanded-start, HasHanded-next}
use Rattle.dw_report.proofs.HandedLemmas.{number_at-some, number_at, HasHanded-ahead, HasHanded-all}
use Rattle.dw_report.proofs.HandedLemmas.{HasHanded-end, ahead-unmet, need-last}
use Rattle.dw_report.proofs.WritingLemmas.{begins_within, chosen_one}

-- ---- a run so far
pub record SoFar (g : Geometry) (request : Request) (before now : Supply) (taken after : List ℕ) (reader : Reader)
    (summary : Summary) : Type 0 where
  pub handed : List Numbered
  pub has : HasHanded g request.form before now reader handed
  pub wrote : Writes (IsReportOn g request handed) taken after
  pub count : length handed ≡ reader.handed
  pub read : summary.problems ≡ length handed
  pub shown : summary.shown ≡ length (chosen request.only handed)
  pub refusals : AreRefused g request (chosen request.only handed) summary.refused
  pub unasked : list_any (is_asked request.only) handed ≡ false

pub SoFar-start : (g : Geometry) (request : Request) (supply : Supply) (taken : List ℕ) (reader : Reader)
    (summary : Summary) → (reader.met_end ≡ false)
    → ((over : Bool) (more : List ℕ) → AreProblems g request.form over more (reader.ahead g over more))
    → reader.handed ≡ 0 → summary.problems ≡ 0 → summary.shown ≡ 0 → summary.refused ≡ 0
    → SoFar g request supply supply taken taken reader summary
SoFar-start g request supply taken reader summary unmet all none read shown refused = record {
  handed = [];
  has = HasHanded-start g request.form supply reader unmet all;
  wrote = record { text = []; is = refl; wrote = Appends-nil taken };
  count = sym none;
  read = read;
  shown = shown;
  refusals = refused;
  unasked = refl;
}

asked-is : (only : Option ℕ) (number : ℕ) → number_is_asked only number ≡ true → only ≡ Some number
asked-is None number e = cc
asked-is (Some only) number e = ap Some (sym (eqb-true number only e))

-- a problem more, asked for or not
pub record More (g : Geometry) (request : Request) (before now : Supply) (taken after : List ℕ) (reader : Reader)
    (summary : Summary) (problem : Numbered) : Type 0 where
  pub front : List Numbered
  pub has : HasHanded g request.form before now reader (front ++ problem ∷ [])
  pub wrote : Writes (IsReportOn g request (front ++ problem ∷ [])) taken after
  pub count : length (front ++ problem ∷ []) ≡ reader.handed
  pub read : summary.problems ≡ length (front ++ problem ∷ [])
  pub shown : summary.shown ≡ length (chosen request.only (front ++ problem ∷ []))
  pub refusals : AreRefused g request (chosen request.only (front ++ problem ∷ [])) summary.refused
  pub unasked : list_any (is_asked request.only) front ≡ false

pub SoFar-more : (g : Geometry) (request : Request) (before now after : Supply) (taken mid written : List ℕ)
    (old new : Reader) (summary counted : Summary) (problem : Numbered) (next : List ℕ)
    → SoFar g request before now taken mid old summary → Reads now after next → (old.met_end ≡ true → next ≡ [])
    → ReadsAtNeed g old next → GivesOne g old new next problem new.met_end
    → (old.met_end ≡ true → new.met_end ≡ true) → new.handed ≡ old.handed + 1
    → Writes (IsReportOn g request (problem ∷ [])) mid written → CountsOne g request summary counted problem
    → More g request before after taken written new counted problem
SoFar-more g request before now after taken mid written old new summary counted problem next so_far took still need
    gives stays one wrote counts = record {
      front = so_far.handed;
      has = HasHanded-next g request.form before now after old new so_far.handed problem next so_far.has took still
          need gives stays;
      wrote = record {
        text = so_far.wrote.text ++ wrote.text;
        is = report_on-append g request so_far.handed (problem ∷ []) so_far.wrote.text wrote.text so_far.wrote.is
            wrote.is;
        wrote = Appends-trans taken mid written so_far.wrote.text wrote.text so_far.wrote.wrote wrote.wrote;
      };
      count = length-append so_far.handed (problem ∷ []) ∙ (ap (λ n. n + 1) so_far.count ∙ sym one);
      read = counts.read ∙ (ap (λ n. n + 1) so_far.read ∙ sym (length-append so_far.handed (problem ∷ [])));
      shown = counts.shown ∙ (ap (λ n. n + length (chosen request.only (problem ∷ []))) so_far.shown
          ∙ sym (length-chosen-push request.only so_far.handed problem));
      refusals = subst (AreRefused g request (chosen request.only (so_far.handed ++ problem ∷ [])))
          (sym counts.refused.2)
          (refused-push g request so_far.handed problem summary.refused counts.refused.0 so_far.refusals
          counts.refused.1);
      unasked = so_far.unasked;
    }

-- it was not asked for: the run goes on
pub SoFar-next : (g : Geometry) (request : Request) (before now : Supply) (taken after : List ℕ) (reader : Reader)
    (summary : Summary) (problem : Numbered)
    → More g request before now taken after reader summary problem → is_asked request.only problem ≡ false
    → SoFar g request before now taken after reader summary
SoFar-next g request before now taken after reader summary problem more other = record {
  handed = more.front ++ problem ∷ [];
  has = more.has;
  wrote = more.wrote;
  count = more.count;
  read = more.read;
  shown = more.shown;
  refusals = more.refusals;
  unasked = any-push request.only more.front problem more.unasked other;
}

-- it was asked for, and these problems follow it: the report on all of them is written
asked_whole : (g : Geometry) (request : Request) (before now : Supply) (taken after : List ℕ) (reader : Reader)
    (summary : Summary) (problem : Numbered) (more : More g request before now taken after reader summary problem)
    (text : List ℕ) (rest : List Numbered) → is_asked request.only problem ≡ true
    → AreProblems g request.form true text ((more.front ++ problem ∷ []) ++ rest)
    → IsWhole g request before now more.has.read text more.wrote.text summary
asked_whole g request before now taken after reader summary problem more text rest asked are =
    let problems = more.front ++ problem ∷ rest in
    let all : AreProblems g request.form true text problems = subst (AreProblems g request.form true text)
    (append_assoc more.front (problem ∷ []) rest) are in
    let numbers : AreNumbered 0 problems = problems-AreNumbered g request.form true text problems all in
    let here = number_here more.front rest problem numbers in
    let through : chosen request.only problems ≡ chosen request.only (more.front ++ problem ∷ []) =
    chosen-through request.only more.front rest problem numbers asked in
    record {
      problems = problems;
      are = all;
      report = subst (λ l. AreTexts g request l more.wrote.text) (sym through) more.wrote.is;
      counts = record {
        read = more.read ∙ sym (ap length (up_to_asked-here request.only more.front rest problem more.unasked asked));
        shown = more.shown ∙ sym (ap length through);
        refusals = subst (λ z. AreRefused g request z summary.refused) (sym through) more.refusals;
      };
      through = inr (
        problem.number,
        inl (asked-is request.only problem.number asked),
        let size = length-append more.front (problem ∷ rest) in omega (arith, here, size),
        subst (λ n. ReadsUpTo g request.form n more.has.read) (sym here)
            (need-last g request.form before now reader more.front problem more.has),
      );
    }

-- so the run ends
pub SoFar-asked : (g : Geometry) (request : Request) (before now : Supply) (taken after : List ℕ) (reader : Reader)
    (summary : Summary) (problem : Numbered) → More g request before now taken after reader summary problem
    → is_asked request.only problem ≡ true → (reader.met_end ≡ true → MeetsEnd before now)
    → Runs g request before now taken after (Ok summary)
SoFar-asked g request before now taken after reader summary problem more asked over = record {
  read = more.has.read;
  took = more.has.took;
  out = more.wrote.text;
  wrote = more.wrote.wrote.grown;
  ends = HasHanded-ahead (λ bytes. IsWhole g request before now more.has.read bytes more.wrote.text summary) g
      request.form before now reader (more.front ++ problem ∷ []) more.has over
      (λ text rest are. asked_whole g request before now taken after reader summary problem more text rest asked are);
}

-- nothing more was read
need-still : (g : Geometry) (form : Form) (handed : List Numbered) (read next : List ℕ) (number : ℕ)
    → number_at handed ≡ number → next ≡ [] → ReadsUpTo g form (number_at handed) read
    → ReadsUpTo g form number (read ++ next)
need-still g form handed read next number e none need = subst (λ l. ReadsUpTo g form number l)
    (sym (ap (λ l. read ++ l) none ∙ append-nil read)) (subst (λ n. ReadsUpTo g form n read) e need)

pub SoFar-end : (g : Geometry) (request : Request) (before now after : Supply) (taken mid : List ℕ)
    (old new : Reader) (summary : Summary) (next : List ℕ)
    → SoFar g request before now taken mid old summary → Reads now after next → (old.met_end ≡ true → next ≡ [])
    → ReadsAtNeed g old next → GivesNone g old new next → (old.met_end ≡ true → new.met_end ≡ true)
    → (new.met_end ≡ true → MeetsEnd before after) → new.handed ≡ old.handed → old.handed ≤ MAX_PROBLEMS + 1
    → Runs g request before after taken mid (Ok summary)
SoFar-end g request before now after taken mid old new summary next so_far took still need gives stays over same bound =
    let handed = so_far.handed in
    let read = so_far.has.read ++ next in
    record {
      read = read;
      took = Reads-trans before now after so_far.has.read next so_far.has.took took;
      out = so_far.wrote.text;
      wrote = so_far.wrote.wrote.grown;
      ends = HasHanded-end (λ bytes. IsWhole g request before after read bytes so_far.wrote.text summary) g
          request.form before now after old new handed next so_far.has still stays gives over (λ text are. record {
            problems = handed;
            are = are;
            report = so_far.wrote.is;
            counts = record {
              read = so_far.read ∙ sym (ap length (up_to_asked-none request.only handed so_far.unasked));
              shown = so_far.shown;
              refusals = so_far.refusals;
            };
            through = elim gives.why [
              | inl met ↦ inl (over met)
              | inr full ↦
                  let count = so_far.count in
                  let last : length handed ≡ MAX_PROBLEMS + 1 = omega (arith, same, count, full.0, bound) in
                  inr (
                    MAX_PROBLEMS + 1,
                    inr refl,
                    omega (arith, last),
                    elim need [
                      | inl none ↦ need-still g request.form handed so_far.has.read next (MAX_PROBLEMS + 1)
                          (number_at-some handed (omega (arith, last)) ∙ last) none so_far.has.need
                      | inr more ↦ absurd (omega (arith, same, full.0, more.0))
                    ],
                  )
            ];
          });
    }

pub SoFar-read : (g : Geometry) (request : Request) (before now after : Supply) (taken mid : List ℕ) (old : Reader)
    (summary : Summary) (next : List ℕ)
    → SoFar g request before now taken mid old summary → Reads now after next → old.ahead g false next ≡ []
    → (old.met_end ≡ false) → Runs g request before after taken mid (Err Read)
SoFar-read g request before now after taken mid old summary next so_far took none unmet =
    let has = so_far.has in
    record {
      read = has.read ++ next;
      took = Reads-trans before now after has.read next has.took took;
      out = so_far.wrote.text;
      wrote = so_far.wrote.wrote.grown;
      ends = record {
        ended = so_far.handed;
        are = subst (AreProblems g request.form false (has.read ++ next)) (ap (λ l. so_far.handed ++ l) none
            ∙ append-nil so_far.handed)
            (ahead-unmet g request.form before now old so_far.handed has unmet false next);
        report = so_far.wrote.is;
        unasked = so_far.unasked;
      };
    }

-- the end was not met before a call if it is not met after it
pub unmet_before : (old new : Reader) → (old.met_end ≡ true → new.met_end ≡ true) → new.met_end ≡ false
    → old.met_end ≡ false
unmet_before old new stays unmet = elim (cases_Bool (old.met_end))
    [ inl met ↦ absurd (true≢false (sym (stays met) ∙ unmet)) | inr e ↦ e ]

-- all problems that bytes may have behind those handed out have texts
abbrev pub HaveTexts : Geometry → Request → Type 0
HaveTexts g request = (problems : List Numbered) → (text : List ℕ) × AreTexts g request problems text

pub SoFar-write : (g : Geometry) (request : Request) (before now after : Supply) (taken mid written : List ℕ)
    (old new : Reader) (summary : Summary) (problem : Numbered) (next : List ℕ)
    → SoFar g request before now taken mid old summary → Reads now after next → (old.met_end ≡ true → next ≡ [])
    → ReadsAtNeed g old next → GivesOne g old new next problem new.met_end
    → (old.met_end ≡ true → new.met_end ≡ true) → (new.met_end ≡ true → MeetsEnd before after) → HaveTexts g request
    → WritesShort (IsReportOn g request (problem ∷ [])) mid written
    → Runs g request before after taken written (Err Write)
SoFar-write g request before now after taken mid written old new summary problem next so_far took still need gives stays
    over exist short =
    let handed = so_far.handed in
    let has = HasHanded-next g request.form before now after old new handed problem next so_far.has took still need
    gives stays in
    let front = so_far.wrote.text in
    record {
      read = has.read;
      took = has.took;
      out = front ++ short.stops.out;
      wrote = (Appends-trans taken mid written front short.stops.out so_far.wrote.wrote short.stops.taken).grown;
      ends = HasHanded-ahead (λ text. (whole : List ℕ) × IsReport g request text whole
          × IsBeginning (front ++ short.stops.out) whole) g request.form before
          after new (handed ++ problem ∷ []) has over (λ text rest are.
          let behind = exist (chosen request.only rest) in (
            (front ++ short.text) ++ behind.0,
            (
              (handed ++ problem ∷ []) ++ rest,
              are,
              report_on-append g request (handed ++ problem ∷ []) rest (front ++ short.text) behind.0
                  (report_on-append g request handed (problem ∷ []) front short.text so_far.wrote.is short.is)
                  behind.1,
            ),
            begins_within front short.stops.out short.text behind.0 short.stops.front,
          ));
    }

pub SoFar-stopped : (g : Geometry) (request : Request) (before now after : Supply) (taken mid written : List ℕ)
    (old new : Reader) (summary : Summary) (problem : Numbered) (next : List ℕ) (why : Stop) (expanded : ℕ)
    → SoFar g request before now taken mid old summary → Reads now after next → (old.met_end ≡ true → next ≡ [])
    → ReadsAtNeed g old next → GivesOne g old new next problem new.met_end
    → (old.met_end ≡ true → new.met_end ≡ true) → (new.met_end ≡ true → MeetsEnd before after)
    → Writes (IsPartOn g request problem.number (problem ∷ [])) mid written
    → Runs g request before after taken written (Err (Stopped why expanded))
SoFar-stopped g request before now after taken mid written old new summary problem next why expanded so_far took still
    need gives stays over part =
    let handed = so_far.handed in
    let has = HasHanded-next g request.form before now after old new handed problem next so_far.has took still need
    gives stays in
    let out = so_far.wrote.text ++ part.text in
    let all = HasHanded-all g request.form before after new (handed ++ problem ∷ []) has in
    let here = number_here handed all.0 problem (subst (AreNumbered 0) (append_assoc handed (problem ∷ []) all.0)
    (problems-AreNumbered g request.form true has.read ((handed ++ problem ∷ []) ++ all.0) all.1)) in
    let need-here : ReadsUpTo g request.form problem.number has.read = subst (λ n. ReadsUpTo g request.form n has.read)
    (sym here) (need-last g request.form before after new handed problem has) in
    record {
      read = has.read;
      took = has.took;
      out = out;
      wrote = (Appends-trans taken mid written so_far.wrote.text part.text so_far.wrote.wrote part.wrote).grown;
      ends = HasHanded-ahead (λ text. IsPart g request has.read text out) g request.form before after new
          (handed ++ problem ∷ []) has over (λ text rest are. record {
            problems = (handed ++ problem ∷ []) ++ rest;
            are = are;
            number = problem.number;
            need = need-here;
            part = part_on-behind g request problem.number handed (problem ∷ []) rest ((handed ++ problem ∷ []) ++ rest)
                so_far.wrote.text part.text refl so_far.wrote.is part.is;
          });
    }

-- a problem's text was not written to its end, and so the run ends
pub SoFar-fault : (g : Geometry) (request : Request) (before now after : Supply) (taken mid written : List ℕ)
    (old new : Reader) (summary : Summary) (problem : Numbered) (next : List ℕ) (expanded : ℕ) (fault : TextFault)
    → SoFar g request before now taken mid old summary → Reads now after next → (old.met_end ≡ true → next ≡ [])
    → ReadsAtNeed g old next → GivesOne g old new next problem new.met_end
    → (old.met_end ≡ true → new.met_end ≡ true) → (new.met_end ≡ true → MeetsEnd before after) → HaveTexts g request
    → TextEnds {X = Summary} (IsReportOn g request (problem ∷ [])) (IsPartOn g request problem.number (problem ∷ []))
    mid written (Err fault)
    → Runs g request before after taken written (Err (ended_by fault expanded))
SoFar-fault g request before now after taken mid written old new summary problem next expanded (TextFault.Stopped why)
    so_far took still need gives stays over exist h = SoFar-stopped g request before now after taken mid written old
    new summary problem next why expanded so_far took still need gives stays over h
SoFar-fault g request before now after taken mid written old new summary problem next expanded TextFault.Sink so_far
    took still need gives stays over exist h = SoFar-write g request before now after taken mid written old new summary
    problem next so_far took still need gives stays over exist h

-- a call that answered did not fail
pub failed-at_ok : {A E : Type 0} (now was : Bool) (r : Result A E) (x : A) → now ≡ (was || is_err r) → r ≡ Ok x
    → was ≡ false → now ≡ false
failed-at_ok now was r x is ok sound = is ∙ (ap (λ q. was || is_err q) ok ∙ (ap (λ b. b || false) sound))

-- at most all are refused
pub refused-le : (g : Geometry) (r : Request) (problems : List Numbered) (n : ℕ) → AreRefused g r problems n
    → n ≤ length problems
refused-le g r [] n h = omega (arith, h)
refused-le g r (p ∷ problems) n (inl (is, rest, are, e)) = let less = refused-le g r problems rest are in
    omega (arith, less, e)
refused-le g r (p ∷ problems) n (inr (none, are)) = let less = refused-le g r problems n are in omega (arith, less)

pub length-chosen-le : (only : Option ℕ) (p : Numbered) → length (chosen only (p ∷ [])) ≤ 1
length-chosen-le only p = elim (number_is_chosen only p.number) as (λ v. length (cond v (p ∷ []) [])
    ≤ 1) [ true ↦ omega arith | false ↦ omega arith ]

-- one problem more that is chosen
pub counts_chosen : (g : Geometry) (r : Request) (old new : Summary) (p : Numbered) (refused : Bool)
    → number_is_chosen r.only p.number ≡ true → (IsTrue refused ↔ IsRefused g r p.found)
    → new.problems ≡ old.problems + 1 → new.shown ≡ old.shown + 1
    → new.refused ≡ (if refused then old.refused + 1 else old.refused) → CountsOne g r old new p
counts_chosen g r old new p refused hit tells read shown count =
    let one : chosen r.only (p ∷ []) ≡ p ∷ [] = chosen_one r.only p hit in
    record {
      read = read;
      shown = shown ∙ sym (ap (λ (z : List Numbered). old.shown + length z) one);
      refused = by_case (cases_Bool refused);
    } where
      of : (n : ℕ) → AreRefused g r (p ∷ []) n → AreRefused g r (chosen r.only (p ∷ [])) n
      of n h = subst (λ z. AreRefused g r z n) (sym (chosen_one r.only p hit)) h

      by_case : (refused ≡ true) ⊎ (refused ≡ false) → (n : ℕ) × AreRefused g r (chosen r.only (p ∷ [])) n
          × (new.refused ≡ old.refused + n)
      by_case (inl e) = (1, of 1 (inl (tells.0 e, 0, refl, refl)), count ∙ rw e refl)
      by_case (inr e) = (
        0,
        of 0 (inr ((λ is. true≢false (sym (tells.1 is) ∙ e)), refl)),
        count ∙ (rw e refl ∙ sym (add-zero old.refused)),
      )
