-- A report on the games that are handed out in turn.
use Rattle.std.proofs.Common.{◌≡◌, ◌∙◌, ◌+◌, ◌-◌, ◌<◌, ◌≤◌, ◌++◌, ◌∷◌, ℕ, Bool, List, [], Some, None, cond, length}
use Rattle.std.proofs.Common.{inl, map}
use Rattle.std.proofs.Common.{refl, sym, ap, subst, arith, append-nil, append_assoc, length-append}
use Rattle.std.specs.List.{count_by, sum_by}
use Rattle.dw_notation.specs.Streams.{Appends}
use Rattle.dw_notation.specs.inner.StreamLemmas.{Appends-nil, Appends-trans}
use Rattle.std.proofs.lemmas.List.{map-append}
use Rattle.std.proofs.lemmas.List.Sums.{count_by-le-length, sum_by_push}
use Rattle.dw_desk_commands.specs.ProblemText.{AreTexts, IsPartOfReport, IsReport, Reported, nothing, one_more}
use Rattle.dw_desk_commands.specs.declared.desk.Counts.{Counts}
use Rattle.dw_desk_commands.specs.declared.desk.DeskFault.{DeskFault}
use Rattle.dw_desk_commands.specs.inner.Choosing.{HandsOut}
use Rattle.dw_desk_commands.specs.inner.Standing.{MayLeave, Stands, StandsOf}
use Rattle.dw_desk_commands.proofs.StandingLemmas.{left_after, left_so_far, no_part}
use Rattle.dw_games.specs.Games.{NumberedGame}
use Rattle.dw_notation.specs.declared.problems.TheConstants.{MAX_PROBLEMS}

-- what is written of the games that were handed out, while the count of expansions rose from `start` to `now`
pub record SoFar (One : ℕ → NumberedGame → Bool → List ℕ → Type 0) (Old New : List ℕ → List NumberedGame → Type 0)
    (counts : Counts) (start now : ℕ) (before after : List ℕ) : Type 0 where
  pub games : List NumberedGame
  pub text : List ℕ
  pub handed : (whole : List ℕ) (more : List NumberedGame) → New whole more → Old whole (games ++ more)
  pub rises : start ≤ now
  pub report : IsReport One (now - start) games counts text
  pub wrote : Appends before after text

pub none_yet : (One : ℕ → NumberedGame → Bool → List ℕ → Type 0) (Old : List ℕ → List NumberedGame → Type 0)
    (counts : Counts) (start : ℕ) (before : List ℕ) → counts.shown ≡ 0 → counts.refused ≡ 0
    → SoFar One Old Old counts start start before before
none_yet One Old counts start before none fine = record {
  games = [];
  text = [];
  handed = λ whole more these. these;
  rises = omega arith;
  report = record {
    reported = [];
    are = refl;
    spent = let same : start - start ≡ 0 = omega arith in same;
    texts = nothing;
    shown = λ few. none;
    refused = λ few. fine;
  };
  wrote = Appends-nil before;
}

-- the counts with one game more
counted_one : (One : ℕ → NumberedGame → Bool → List ℕ → Type 0) (expanded : ℕ) (games : List NumberedGame)
    (text : List ℕ) (counts counted : Counts) (this : Reported) (report : IsReport One expanded games counts text)
    → (counts.shown < 4294967295 → counts.refused < 4294967295
    → counted ≡ record { shown = counts.shown + 1; refused = counts.refused + cond this.is_refused 1 0 })
    → length (report.reported ++ this ∷ []) ≤ MAX_PROBLEMS + 1
    → (counted.shown ≡ length (report.reported ++ this ∷ []))
    × (counted.refused ≡ count_by (λ r. r.is_refused) (report.reported ++ this ∷ []))
counted_one One expanded games text counts counted this report with few =
    let xs = report.reported in
    let more = length-append xs (this ∷ []) in
    let room : length xs ≤ MAX_PROBLEMS = omega (arith, few, more) in
    let shown = report.shown (omega (arith, room)) in
    let refused = report.refused (omega (arith, room)) in
    let bad = count_by-le-length (λ r. r.is_refused) xs in
    let is = with (omega (arith, room, shown)) (omega (arith, room, refused, bad)) in (
      ap (λ c. c.shown) is ∙ (ap (λ n. n + 1) shown ∙ sym more),
      ap (λ c. c.refused) is ∙ (ap (λ n. n + cond this.is_refused 1 0) refused
          ∙ sym (sum_by_push (λ r. cond r.is_refused 1 0) xs this)),
    )

-- one more is written
pub then_one : (One : ℕ → NumberedGame → Bool → List ℕ → Type 0) (Old Mid New : List ℕ → List NumberedGame → Type 0)
    (MayBe : List ℕ → Type 0) (counts counted : Counts) (start now then : ℕ) (before after written : List ℕ)
    (game : NumberedGame) (refused : Bool) → SoFar One Old Mid counts start now before after
    → HandsOut Mid New MayBe (Some game) → now ≤ then
    → ((text : List ℕ) × One (then - now) game refused text × Appends after written text)
    → (counts.shown < 4294967295 → counts.refused < 4294967295
    → counted ≡ record { shown = counts.shown + 1; refused = counts.refused + cond refused 1 0 })
    → SoFar One Old New counted start then before written
then_one One Old Mid New MayBe counts counted start now then before after written game refused so_far handed rises one
    with =
    let report = so_far.report in
    let this : Reported = record { game = game; expanded = then - now; is_refused = refused } in
    let counts_one = counted_one One (now - start) so_far.games so_far.text counts counted this report with in
    let more : sum_by (λ (r : Reported). r.expanded) (report.reported ++ this ∷ [])
    ≡ sum_by (λ (r : Reported). r.expanded) report.reported + (then - now) =
    sum_by_push (λ r. r.expanded) report.reported this in
    record {
      games = so_far.games ++ game ∷ [];
      text = so_far.text ++ one.0;
      handed = λ whole more these. subst (Old whole) (sym (append_assoc so_far.games (game ∷ []) more))
          (so_far.handed whole (game ∷ more) (handed whole more these));
      rises = omega (arith, so_far.rises, rises);
      report = record {
        reported = report.reported ++ this ∷ [];
        are = ap (λ z. z ++ game ∷ []) report.are ∙ sym (map-append (λ r. r.game) report.reported (this ∷ []));
        spent = omega (arith, so_far.rises, rises, report.spent, more);
        texts = one_more this one.0 report.texts one.1;
        shown = λ few. (counts_one few).0;
        refused = λ few. (counts_one few).1;
      };
      wrote = Appends-trans before after written so_far.text one.0 so_far.wrote one.2;
    }

-- no more comes
pub all_written : (One : ℕ → NumberedGame → Bool → List ℕ → Type 0) (Old Mid : List ℕ → List NumberedGame → Type 0)
    (MayBe : List ℕ → Type 0) (counts : Counts) (start now : ℕ) (before after : List ℕ)
    → SoFar One Old Mid counts start now before after → HandsOut Mid Mid MayBe None
    → (games : List NumberedGame) × (text : List ℕ) × ((whole : List ℕ) → MayBe whole → Old whole games)
    × IsReport One (now - start) games counts text × Appends before after text
all_written One Old Mid MayBe counts start now before after so_far none = (
  so_far.games,
  so_far.text,
  λ whole may. subst (Old whole) (append-nil so_far.games) (so_far.handed whole [] (none whole may)),
  so_far.report,
  so_far.wrote,
)

-- ---- what stands after a fault

-- the texts of games without their counts
texts_of : (One : ℕ → NumberedGame → Bool → List ℕ → Type 0) {xs : List Reported} {text : List ℕ}
    → AreTexts (λ (r : Reported). One r.expanded r.game r.is_refused) xs text
    → AreTexts (λ game one. (expanded : ℕ) × (refused : Bool) × One expanded game refused one)
    (map (λ (r : Reported). r.game) xs) text
texts_of One nothing = nothing
texts_of One (one_more {xs = xs} {text = text} x one before is) =
    subst (λ z. AreTexts (λ game one. (expanded : ℕ) × (refused : Bool) × One expanded game refused one) z
    (text ++ one)) (sym (map-append (λ (r : Reported). r.game) xs (x ∷ [])))
    (one_more x.game one (texts_of One before) (x.expanded, x.is_refused, is))

whole_texts : (One : ℕ → NumberedGame → Bool → List ℕ → Type 0) (Old New : List ℕ → List NumberedGame → Type 0)
    (counts : Counts) (start now : ℕ) (before after : List ℕ) (so_far : SoFar One Old New counts start now before after)
    → AreTexts (λ game one. (expanded : ℕ) × (refused : Bool) × One expanded game refused one) so_far.games so_far.text
whole_texts One Old New counts start now before after so_far =
    subst (λ z. AreTexts (λ game one. (expanded : ℕ) × (refused : Bool) × One expanded game refused one) z so_far.text)
    (sym so_far.report.are) (texts_of One so_far.report.texts)

-- a fault between two games
pub left_between : (One : ℕ → NumberedGame → Bool → List ℕ → Type 0) (Part : NumberedGame → List ℕ → Type 0)
    (Whole : List NumberedGame → List ℕ → Type 0) (Old Mid : List ℕ → List NumberedGame → Type 0)
    (MayBe : List ℕ → Type 0) (counts : Counts) (start now : ℕ) (before after : List ℕ) (fault : DeskFault)
    → SoFar One Old Mid counts start now before after
    → ((whole : List ℕ) → MayBe whole → (games : List NumberedGame) × Mid whole games)
    → StandsOf (IsPartOfReport One Part) Whole MayBe Old before after fault
left_between One Part Whole Old Mid MayBe counts start now before after fault so_far some =
    left_so_far (IsPartOfReport One Part) Whole MayBe Old before after so_far.text fault so_far.wrote (λ whole may.
    let more = some whole may in (
      so_far.games ++ more.0,
      so_far.handed whole more.0 more.1,
      record {
        before = so_far.games;
        behind = more.0;
        are = refl;
        texts = so_far.text;
        whole = whole_texts One Old Mid counts start now before after so_far;
        part = [];
        further = no_part Part more.0;
        is = sym (append-nil so_far.text);
      },
    ))

-- a fault in the report on a game
pub left_within : (One : ℕ → NumberedGame → Bool → List ℕ → Type 0) (Part : NumberedGame → List ℕ → Type 0)
    (Whole : List NumberedGame → List ℕ → Type 0) (Old Mid New : List ℕ → List NumberedGame → Type 0)
    (MayBe : List ℕ → Type 0) (counts : Counts) (start now : ℕ) (before after written : List ℕ) (game : NumberedGame)
    (fault : DeskFault) → SoFar One Old Mid counts start now before after → HandsOut Mid New MayBe (Some game)
    → ((whole : List ℕ) → MayBe whole → (games : List NumberedGame) × New whole games)
    → Stands (MayLeave (Part game)) (λ text. (expanded : ℕ) × (refused : Bool) × One expanded game refused text) after
    written fault
    → StandsOf (IsPartOfReport One Part) Whole MayBe Old before written fault
left_within One Part Whole Old Mid New MayBe counts start now before after written game fault so_far handed some
    stands =
    let texts = whole_texts One Old Mid counts start now before after so_far in
    left_after (IsPartOfReport One Part) Whole (MayLeave (Part game))
    (λ text. (expanded : ℕ) × (refused : Bool) × One expanded game refused text) MayBe Old before after written
    so_far.text fault so_far.wrote stands (λ whole may. let more = some whole may in (
      so_far.games ++ game ∷ more.0,
      so_far.handed whole (game ∷ more.0) (handed whole more.0 more.1),
      λ part left. record {
        before = so_far.games;
        behind = game ∷ more.0;
        are = refl;
        texts = so_far.text;
        whole = texts;
        part = part;
        further = left;
        is = refl;
      },
      λ one is. inl (record {
        before = so_far.games ++ game ∷ [];
        behind = more.0;
        are = sym (append_assoc so_far.games (game ∷ []) more.0);
        texts = so_far.text ++ one;
        whole = one_more game one texts is;
        part = [];
        further = no_part Part more.0;
        is = sym (append-nil (so_far.text ++ one));
      }),
    ))
