-- Lemmas on the problems that a reader has handed out.
use Rattle.std.proofs.Common.{◌≡◌, ℕ, ◌+◌, ◌<◌, ◌≤◌, inl, inr, ◌⊎◌, List, [], ◌∷◌, ◌++◌, Bool, true, false}
use Rattle.std.proofs.Common.{refl, sym, ap, ◌∙◌, append_assoc, append-nil, arith, subst, MatchBool, length}
use Rattle.std.proofs.Common.{length-append}
use Rattle.std.proofs.lemmas.Bool.{cases_Bool, true≢false}
use Rattle.dw_board.specs.Geometry.{Geometry}
use Rattle.dw_notation.specs.TextLines.LinesSay.{last as last_line}
use Rattle.dw_notation.specs.WholeTexts.SectionsSay.{nothing}
use Rattle.dw_notation.specs.Problems.{Numbered, TextSays, AreProblems}
use Rattle.dw_notation.specs.Reading.{Reader, ReadsAtNeed}
use Rattle.dw_notation.specs.Streams.{Supply, Reads, MeetsEnd, HoldsAhead}
use Rattle.dw_notation.specs.inner.StreamLemmas.{Reads-nil, Reads-trans}
use Rattle.dw_notation.specs.declared.problems.Form.{Form}
use Rattle.dw_notation.specs.declared.problems.Form.TheVariants.{Fens, Pdn}
use Rattle.dw_notation.specs.declared.problems.TheConstants.{MAX_PROBLEMS}
use Rattle.dw_report.specs.Running.{ReadsUpTo}

-- what the problems of the bytes read are, from those handed out on
abbrev pub Continues : Geometry → Form → List ℕ → Reader → List Numbered → Bool → Type 0
Continues g form read reader handed met =
    MatchBool met (AreProblems g form true read (handed ++ reader.ahead g true []))
    ((over : Bool) (more : List ℕ) → AreProblems g form over (read ++ more) (handed ++ reader.ahead g over more))

-- the number of the problem handed out last, or 1 if there is none
abbrev pub number_at : List Numbered → ℕ
number_at [] = 1
number_at (problem ∷ handed) = length (problem ∷ handed)

number_at-le : (handed : List Numbered) → number_at handed ≤ length handed + 1
number_at-le [] = omega arith
number_at-le (problem ∷ handed) = omega arith

number_at-push : (handed : List Numbered) (problem : Numbered) → number_at (handed ++ problem ∷ []) ≡ length handed + 1
number_at-push [] problem = refl
number_at-push (first ∷ handed) problem = let size = length-append handed (problem ∷ []) in omega (arith, size)

pub number_at-some : (handed : List Numbered) → 0 < length handed → number_at handed ≡ length handed
number_at-some [] some = absurd (omega (arith, some))
number_at-some (problem ∷ handed) some = refl

-- the bytes read gave the problems handed out so far
pub record HasHanded (g : Geometry) (form : Form) (before now : Supply) (reader : Reader) (handed : List Numbered) :
    Type 0 where
  pub read : List ℕ
  pub took : Reads before now read
  pub need : ReadsUpTo g form (number_at handed) read
  pub same : Continues g form read reader handed reader.met_end

-- what a call that handed out a problem did
abbrev pub GivesOne : Geometry → Reader → Reader → List ℕ → Numbered → Bool → Type 0
GivesOne g old new read problem met =
    MatchBool met (old.ahead g true read ≡ problem ∷ new.ahead g true [])
    ((over : Bool) (bytes : List ℕ) → old.ahead g over (read ++ bytes) ≡ problem ∷ new.ahead g over bytes)

-- what a call did that handed out nothing, if that was no fault
pub record GivesNone (g : Geometry) (old new : Reader) (read : List ℕ) : Type 0 where
  pub none : old.ahead g true read ≡ []
  pub why : (new.met_end ≡ true)
      ⊎ ((MAX_PROBLEMS < new.handed) × ((more : List ℕ) → old.ahead g true (read ++ more) ≡ []))

-- the problems of the same bytes are the same
are-same : (g : Geometry) (form : Form) (over : Bool) (bytes others : List ℕ) (problems list : List Numbered)
    → bytes ≡ others → problems ≡ list → AreProblems g form over bytes problems → AreProblems g form over others list
are-same g form over bytes others problems list e f h =
    subst (λ l. AreProblems g form over l list) e (subst (AreProblems g form over bytes) f h)

-- the end was not met, and so whatever bytes follow
pub ahead-unmet : (g : Geometry) (form : Form) (before now : Supply) (reader : Reader)
    (handed : List Numbered) → (has : HasHanded g form before now reader handed) → reader.met_end ≡ false
    → (over : Bool) (more : List ℕ) → AreProblems g form over (has.read ++ more) (handed ++ reader.ahead g over more)
ahead-unmet g form before now reader handed has e = subst (Continues g form has.read reader handed) e has.same

ahead-met : (g : Geometry) (form : Form) (before now : Supply) (reader : Reader)
    (handed : List Numbered) → (has : HasHanded g form before now reader handed) → reader.met_end ≡ true
    → AreProblems g form true has.read (handed ++ reader.ahead g true [])
ahead-met g form before now reader handed has e = subst (Continues g form has.read reader handed) e has.same

-- ---- no more was read than the next problem asks for
need-same : (g : Geometry) (form : Form) (before now : Supply) (reader : Reader)
    (handed : List Numbered) (next : List ℕ) → (has : HasHanded g form before now reader handed) → next ≡ []
    → ReadsUpTo g form (length handed + 1) (has.read ++ next)
need-same g form before now reader handed next has none =
    let need = has.need in
    record {
      before = need.before;
      last = need.last;
      split = ap (λ l. has.read ++ l) none ∙ append-nil has.read ∙ need.split;
      few = need.few;
      ended = need.ended;
      are = need.are;
      fewer = let some = number_at-le handed in let fewer = need.fewer in omega (arith, some, fewer);
    }

need-next : (g : Geometry) (form : Form) (before now : Supply) (reader : Reader) (handed : List Numbered)
    (next : List ℕ) → (has : HasHanded g form before now reader handed) → (reader.met_end ≡ true → next ≡ [])
    → ReadsAtNeed g reader next → ReadsUpTo g form (length handed + 1) (has.read ++ next)
need-next g form before now reader handed next has still (inl none) = need-same g form before now reader handed next
    has none
need-next g form before now reader handed next has still (inr (room, front, last, split, few, none)) =
    elim (cases_Bool reader.met_end) [
      | inl was ↦ need-same g form before now reader handed next has (still was)
      | inr unmet ↦ record {
        before = has.read ++ front;
        last = last;
        split = ap (λ l. has.read ++ l) split ∙ sym (append_assoc has.read front last);
        few = few;
        ended = handed;
        are = subst (AreProblems g form false (has.read ++ front)) (ap (λ l. handed ++ l) none ∙ append-nil handed)
            (ahead-unmet g form before now reader handed has unmet false front);
        fewer = omega arith;
      }
    ]

-- ---- a problem more
pub HasHanded-next : (g : Geometry) (form : Form) (before now after : Supply) (old new : Reader)
    (handed : List Numbered) (problem : Numbered) (next : List ℕ)
    → HasHanded g form before now old handed → Reads now after next → (old.met_end ≡ true → next ≡ [])
    → ReadsAtNeed g old next → GivesOne g old new next problem new.met_end
    → (old.met_end ≡ true → new.met_end ≡ true)
    → HasHanded g form before after new (handed ++ problem ∷ [])
HasHanded-next g form before now after old new handed problem next has took still need gives stays =
    let read = has.read ++ next in
    let all = handed ++ problem ∷ [] in
    let onto : (rest : List Numbered) → handed ++ (problem ∷ rest) ≡ all ++ rest =
    λ rest. sym (append_assoc handed (problem ∷ []) rest) in
    let last : (new.met_end ≡ true) → old.ahead g true next ≡ problem ∷ new.ahead g true [] =
    λ e. subst (GivesOne g old new next problem) e gives in
    let given : (new.met_end ≡ false) → (over : Bool) (more : List ℕ) → old.ahead g over (next ++ more)
    ≡ problem ∷ new.ahead g over more =
    λ e. subst (GivesOne g old new next problem) e gives in
    record {
      read = read;
      took = Reads-trans before now after has.read next has.took took;
      need = subst (λ n. ReadsUpTo g form n read) (sym (number_at-push handed problem))
          (need-next g form before now old handed next has still need);
      same = elim (cases_Bool new.met_end) [
        | inl met ↦ subst (Continues g form read new all) (sym met)
            (elim (cases_Bool old.met_end) [
              | inl was ↦ let none = still was in
                  are-same g form true has.read read (handed ++ old.ahead g true []) (all ++ new.ahead g true [])
                  (sym (ap (λ l. has.read ++ l) none ∙ append-nil has.read))
                  (ap (λ l. handed ++ old.ahead g true l) (sym none) ∙ ap (λ l. handed ++ l) (last met)
                  ∙ onto (new.ahead g true [])) (ahead-met g form before now old handed has was)
              | inr was ↦ subst (AreProblems g form true read) (ap (λ l. handed ++ l) (last met)
                  ∙ onto (new.ahead g true [])) (ahead-unmet g form before now old handed has was true next)
            ])
        | inr unmet ↦ subst (Continues g form read new all) (sym unmet)
            (elim (cases_Bool old.met_end) [
              | inl was ↦ absurd (true≢false (sym (stays was) ∙ unmet))
              | inr was ↦ λ over more. are-same g form over (has.read ++ (next ++ more)) (read ++ more)
                  (handed ++ old.ahead g over (next ++ more)) (all ++ new.ahead g over more)
                  (sym (append_assoc has.read next more))
                  (ap (λ l. handed ++ l) (given unmet over more) ∙ onto (new.ahead g over more))
                  (ahead-unmet g form before now old handed has was over (next ++ more))
            ])
      ];
    }

-- no more was read than the problem handed out last asks for
pub need-last : (g : Geometry) (form : Form) (before now : Supply) (reader : Reader)
    (handed : List Numbered) (problem : Numbered)
    → (has : HasHanded g form before now reader (handed ++ problem ∷ [])) → ReadsUpTo g form (length handed + 1)
    has.read
need-last g form before now reader handed problem has = subst (λ n. ReadsUpTo g form n has.read)
    (number_at-push handed problem) has.need

-- ---- nothing has ended in a text of no bytes
nothing_said : (g : Geometry) (form : Form) → TextSays g form false [] []
nothing_said g Fens = last_line [] [] tt refl
nothing_said g Pdn = nothing

nothing_needed : (g : Geometry) (form : Form) → ReadsUpTo g form 1 []
nothing_needed g form = record {
  before = [];
  last = [];
  split = refl;
  few = omega arith;
  ended = [];
  are = record { found = []; said = nothing_said g form; numbers = refl };
  fewer = omega arith;
}

pub HasHanded-start : (g : Geometry) (form : Form) (supply : Supply) (reader : Reader) → reader.met_end ≡ false
    → ((over : Bool) (more : List ℕ) → AreProblems g form over more (reader.ahead g over more))
    → HasHanded g form supply supply reader []
HasHanded-start g form supply reader unmet all = record {
  read = [];
  took = Reads-nil supply;
  need = nothing_needed g form;
  same = subst (Continues g form [] reader []) (sym unmet) all;
}

-- whatever bytes follow, or of the bytes read if the end was met, the problems begin with those handed out
pub HasHanded-ahead : (P : List ℕ → Type 0) (g : Geometry) (form : Form) (before now : Supply) (reader : Reader)
    (handed : List Numbered) → (has : HasHanded g form before now reader handed)
    → (reader.met_end ≡ true → MeetsEnd before now)
    → ((text : List ℕ) (rest : List Numbered) → AreProblems g form true text (handed ++ rest) → P text)
    → HoldsAhead P before now has.read
HasHanded-ahead P g form before now reader handed has over holds = elim (cases_Bool reader.met_end) [
  | inl met ↦ inr (
    over met,
    holds has.read (reader.ahead g true []) (ahead-met g form before now reader handed has met),
  )
  | inr unmet ↦ inl (λ more. holds (has.read ++ more) (reader.ahead g true more) (ahead-unmet g form before now reader
      handed has unmet true more))
]

-- the bytes read have problems, which begin with those handed out
pub HasHanded-all : (g : Geometry) (form : Form) (before now : Supply) (reader : Reader) (handed : List Numbered)
    → (has : HasHanded g form before now reader handed)
    → (rest : List Numbered) × AreProblems g form true has.read (handed ++ rest)
HasHanded-all g form before now reader handed has = elim (cases_Bool reader.met_end) [
  | inl met ↦ (reader.ahead g true [], ahead-met g form before now reader handed has met)
  | inr unmet ↦ (
    reader.ahead g true [],
    subst (λ l. AreProblems g form true l (handed ++ reader.ahead g true [])) (append-nil has.read)
        (ahead-unmet g form before now reader handed has unmet true []),
  )
]

-- no problem follows those handed out, whatever bytes follow, or of the bytes read if the end was met
pub HasHanded-end : (P : List ℕ → Type 0) (g : Geometry) (form : Form) (before now after : Supply) (old new : Reader)
    (handed : List Numbered) (next : List ℕ) → (has : HasHanded g form before now old handed)
    → (old.met_end ≡ true → next ≡ []) → (old.met_end ≡ true → new.met_end ≡ true) → GivesNone g old new next
    → (new.met_end ≡ true → MeetsEnd before after) → ((text : List ℕ) → AreProblems g form true text handed → P text)
    → HoldsAhead P before after (has.read ++ next)
HasHanded-end P g form before now after old new handed next has still stays gives over holds =
    elim (cases_Bool old.met_end) [
      | inl was ↦ inr (
        over (stays was),
        subst P (read was) (holds has.read (subst (AreProblems g form true has.read)
            (last was) (ahead-met g form before now old handed has was))),
      )
      | inr unmet ↦ elim gives.why [
        | inl met ↦ inr (
          over met,
          holds (has.read ++ next) (subst (AreProblems g form true (has.read ++ next))
              (ap (λ l. handed ++ l) gives.none ∙ append-nil handed)
              (ahead-unmet g form before now old handed has unmet true next)),
        )
        | inr full ↦ inl (λ more. subst P (sym (append_assoc has.read next more)) (holds (has.read ++ (next ++ more))
            (subst (AreProblems g form true (has.read ++ (next ++ more)))
            (ap (λ l. handed ++ l) (full.1 more) ∙ append-nil handed)
            (ahead-unmet g form before now old handed has unmet true (next ++ more)))))
      ]
    ]
  where
    read : old.met_end ≡ true → has.read ≡ has.read ++ next
    read was = sym (ap (λ l. has.read ++ l) (still was) ∙ append-nil has.read)

    last : old.met_end ≡ true → handed ++ old.ahead g true [] ≡ handed
    last was = ap (λ l. handed ++ old.ahead g true l) (sym (still was)) ∙ ap (λ l. handed ++ l) gives.none
        ∙ append-nil handed
