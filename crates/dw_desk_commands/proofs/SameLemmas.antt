-- Problems that are compared in turn.
use Rattle.std.proofs.Common.{◌≡◌, ◌∙◌, ◌+◌, ◌<◌, ◌≤◌, ◌⊎◌, ◌++◌, ◌∷◌, ℕ, Bool, List, [], Option, Some, None, Ok}
use Rattle.std.proofs.Common.{Err, cond, flat_map, length, map, true, false, nat_eq}
use Rattle.std.proofs.Common.{refl, sym, ap, subst, arith, append-nil, append_assoc, inl, inr, length-append}
use Rattle.std.specs.List.{count_by}
use Rattle.std.proofs.lemmas.Bool.{eqb-true}
use Rattle.std.proofs.lemmas.Grind.{flat_map-append}
use Rattle.std.proofs.lemmas.List.{map-append}
use Rattle.std.proofs.lemmas.List.Sums.{count_by-le-length, sum_by_push}
use Rattle.dw_board.specs.Geometry.{Geometry}
use Rattle.dw_arguments.specs.declared.portion.Portion.{Portion}
use Rattle.dw_arguments.specs.declared.same.SameArgs.{SameArgs}
use Rattle.dw_desk_commands.specs.Same.{AreCompared, Compared, IsCompared, IsSameOf, IsSamePart, all_noted}
use Rattle.dw_desk_commands.specs.Same.{last_text, noted, none_compared, one_compared}
use Rattle.dw_desk_commands.specs.Same as of
use Rattle.dw_desk_commands.specs.declared.desk.Counts.{Counts}
use Rattle.dw_desk_commands.specs.declared.desk.DeskFault.{DeskFault}
use Rattle.dw_desk_commands.specs.declared.same.Outcome.{Outcome}
use Rattle.dw_desk_commands.specs.declared.same.Tally.{Tally}
use Rattle.dw_desk_commands.specs.inner.Choosing.{HandsOut}
use Rattle.dw_desk_commands.specs.inner.Repeating.{Compares, IsAdded, has_position, is_counted, is_repeated, last_of}
use Rattle.dw_desk_commands.specs.inner.Repeating.{outcome}
use Rattle.dw_desk_commands.specs.inner.Standing.{Stands, StandsOf}
use Rattle.dw_desk_commands.proofs.StandingLemmas.{left_after, left_so_far}
use Rattle.dw_games.specs.Games.{NumberedGame}
use Rattle.dw_notation.specs.Streams.{Appends}
use Rattle.dw_notation.specs.TextLines.{Found}
use Rattle.dw_notation.specs.inner.StreamLemmas.{Appends-nil, Appends-trans}
use Rattle.dw_notation.specs.declared.problems.TheConstants.{MAX_PROBLEMS}
use Rattle.dw_same.specs.RepeatText.{count_text}
use Rattle.dw_same.specs.Repeats.{Noted}
use Rattle.dw_same.specs.declared.index.ProblemIndex.{ProblemIndex}
use Rattle.dw_same.specs.declared.index.Repeat.{Repeat}
use Rattle.dw_same.specs.inner.Keys.{AreAdded}

-- ---- the numbers of problems

-- an outcome says of a problem what the definitions say of it
counted_is : (game : NumberedGame) (found : Found) (repeat : Option Repeat) → game.said.found ≡ found
    → is_counted (outcome found repeat) ≡ of.is_counted (record { game = game; repeat = repeat })
counted_is game (Ok p) None is = rw is refl
counted_is game (Ok p) (Some r) is = rw is refl
counted_is game (Err f) repeat is = rw is refl

position_is : (game : NumberedGame) (found : Found) (repeat : Option Repeat) → game.said.found ≡ found
    → has_position (outcome found repeat) ≡ of.has_position (record { game = game; repeat = repeat })
position_is game (Ok p) None is = rw is refl
position_is game (Ok p) (Some r) is = rw is refl
position_is game (Err f) repeat is = rw is refl

repeated_is : (g : Geometry) (json : Bool) (before : List Noted) (game : NumberedGame) (found : Found)
    (repeat : Option Repeat) (text : List ℕ) → IsCompared g json before game found repeat text
    → is_repeated (outcome found repeat) ≡ of.is_repeated (record { game = game; repeat = repeat })
repeated_is g json before game (Ok p) None text is = refl
repeated_is g json before game (Ok p) (Some r) text is = refl
repeated_is g json before game (Err f) repeat text is =
    ap (λ r. of.is_repeated (record { game = game; repeat = r })) (sym is.0)

-- a number with one problem more
one_more : (test : Compared → Bool) (xs : List Compared) (this : Compared) (old new : ℕ) (yes' : Bool)
    → (length xs ≤ MAX_PROBLEMS + 1 → old ≡ count_by test xs) → yes' ≡ test this
    → (old < 4294967295 → new ≡ old + cond yes' 1 0)
    → length (xs ++ this ∷ []) ≤ MAX_PROBLEMS + 1 → new ≡ count_by test (xs ++ this ∷ [])
one_more test xs this old new yes' so_far same with few =
    let more = length-append xs (this ∷ []) in
    let room : length xs ≤ MAX_PROBLEMS = omega (arith, few, more) in
    let was = so_far (omega (arith, room)) in
    let small = count_by-le-length test xs in
    with (omega (arith, room, was, small))
    ∙ (ap (λ n. n + cond yes' 1 0) was ∙ (ap (λ b. count_by test xs + cond b 1 0) same
    ∙ sym (sum_by_push (λ x. cond (test x) 1 0) xs this)))

-- the numbers of problems with one problem more
counts_more : (xs : List Compared) (this : Compared) (old new : Counts) (yes' : Bool)
    → (length xs ≤ MAX_PROBLEMS + 1 → old.shown ≡ length xs)
    → (length xs ≤ MAX_PROBLEMS + 1 → old.refused ≡ count_by of.is_counted xs) → yes' ≡ of.is_counted this
    → (old.shown < 4294967295 → old.refused < 4294967295
    → new ≡ record { shown = old.shown + 1; refused = old.refused + cond yes' 1 0 })
    → length (xs ++ this ∷ []) ≤ MAX_PROBLEMS + 1
    → (new.shown ≡ length (xs ++ this ∷ [])) × (new.refused ≡ count_by of.is_counted (xs ++ this ∷ []))
counts_more xs this old new yes' shown_is refused_is same with few =
    let more = length-append xs (this ∷ []) in
    let room : length xs ≤ MAX_PROBLEMS = omega (arith, few, more) in
    let shown = shown_is (omega (arith, room)) in
    let refused = refused_is (omega (arith, room)) in
    let bad = count_by-le-length of.is_counted xs in
    let is = with (omega (arith, room, shown)) (omega (arith, room, refused, bad)) in (
      ap (λ c. c.shown) is ∙ (ap (λ n. n + 1) shown ∙ sym more),
      ap (λ c. c.refused) is ∙ (ap (λ n. n + cond yes' 1 0) refused
          ∙ (ap (λ b. count_by of.is_counted xs + cond b 1 0) same
          ∙ sym (sum_by_push (λ x. cond (of.is_counted x) 1 0) xs this))),
    )

-- ---- the loop

-- the problems of games with one game more
noted_more : (xs : List Compared) (this : Compared)
    → all_noted (map (λ c. c.game) (xs ++ this ∷ []))
    ≡ all_noted (map (λ c. c.game) xs) ++ noted this.game.number this.game.said.found
noted_more xs this =
    let each : NumberedGame → List Noted = λ game. noted game.number game.said.found in
    ap (flat_map each) (map-append (λ c. c.game) xs (this ∷ []))
    ∙ (flat_map-append each (map (λ c. c.game) xs) (this.game ∷ [])
    ∙ ap (λ z. all_noted (map (λ c. c.game) xs) ++ z) (append-nil (each this.game)))

-- what is written of the games that were handed out
pub record SoFar {B : Type 0} (g : Geometry) (json : Bool) (Old New : List ℕ → List NumberedGame → Type 0)
    (tally : Tally) (index : ProblemIndex B) (before after : List ℕ) : Type 0 where
  pub problems : List Compared
  pub text : List ℕ
  pub handed : (whole : List ℕ) (more : List NumberedGame) → New whole more
      → Old whole (map (λ c. c.game) problems ++ more)
  pub each : AreCompared g json problems text
  pub added : AreAdded g (all_noted (map (λ c. c.game) problems)) index
  pub shown : length problems ≤ MAX_PROBLEMS + 1 → tally.counts.shown ≡ length problems
  pub refused : length problems ≤ MAX_PROBLEMS + 1 → tally.counts.refused ≡ count_by of.is_counted problems
  pub known : length problems ≤ MAX_PROBLEMS + 1 → tally.positions ≡ count_by of.has_position problems
  pub repeated : length problems ≤ MAX_PROBLEMS + 1 → tally.repeats ≡ count_by of.is_repeated problems
  pub some : (problems ≡ []) ⊎ (1 ≤ tally.counts.shown)
  pub wrote : Appends before after text

pub none_yet : {B : Type 0} (g : Geometry) (json : Bool) (Old : List ℕ → List NumberedGame → Type 0) (tally : Tally)
    (index : ProblemIndex B) (before : List ℕ) → tally.counts.shown ≡ 0 → tally.counts.refused ≡ 0
    → tally.positions ≡ 0 → tally.repeats ≡ 0 → AreAdded g [] index
    → SoFar g json Old Old tally index before before
none_yet g json Old tally index before shown refused known repeated added = record {
  problems = [];
  text = [];
  handed = λ whole more these. these;
  each = none_compared;
  added = added;
  shown = λ few. shown;
  refused = λ few. refused;
  known = λ few. known;
  repeated = λ few. repeated;
  some = inl refl;
  wrote = Appends-nil before;
}

-- one more is written
pub then_one : {B : Type 0} (g : Geometry) (json : Bool) (Old Mid New : List ℕ → List NumberedGame → Type 0)
    (MayBe : List ℕ → Type 0) (tally counted : Tally) (index more : ProblemIndex B) (before after written : List ℕ)
    (game : NumberedGame) (given : Outcome)
    → SoFar g json Old Mid tally index before after → HandsOut Mid New MayBe (Some game)
    → ((text : List ℕ) × Appends after written text × Compares g json index game given text)
    → IsAdded g index more game
    → (tally.counts.shown < 4294967295 → tally.counts.refused < 4294967295
    → counted.counts ≡ record {
      shown = tally.counts.shown + 1;
      refused = tally.counts.refused + cond (is_counted given) 1 0;
    })
    → (tally.positions < 4294967295 → counted.positions ≡ tally.positions + cond (has_position given) 1 0)
    → (tally.repeats < 4294967295 → counted.repeats ≡ tally.repeats + cond (is_repeated given) 1 0)
    → 1 ≤ counted.counts.shown → SoFar g json Old New counted more before written
then_one g json Old Mid New MayBe tally counted index more before after written game given so_far handed one adds
    counts positions repeats some =
    let xs = so_far.problems in
    let is = one.2 (all_noted (map (λ c. c.game) xs)) so_far.added in
    let this : Compared = record { game = game; repeat = is.0 } in
    let found = game.said.found in
    let both = counts_more xs this tally.counts counted.counts (is_counted given) so_far.shown so_far.refused
    (ap is_counted is.2 ∙ counted_is game found is.0 refl) counts in
    record {
      problems = xs ++ this ∷ [];
      text = so_far.text ++ one.0;
      handed = λ whole rest these. subst (Old whole)
          (sym (ap (λ t. t ++ rest) (map-append (λ c. c.game) xs (this ∷ []))
          ∙ append_assoc (map (λ c. c.game) xs) (game ∷ []) rest))
          (so_far.handed whole (game ∷ rest) (handed whole rest these));
      each = one_compared this one.0 so_far.each is.1;
      added = subst (λ z. AreAdded g z more) (sym (noted_more xs this))
          (adds (all_noted (map (λ c. c.game) xs)) so_far.added);
      shown = λ few. (both few).0;
      refused = λ few. (both few).1;
      known = one_more of.has_position xs this tally.positions counted.positions (has_position given) so_far.known
          (ap has_position is.2 ∙ position_is game found is.0 refl) positions;
      repeated = one_more of.is_repeated xs this tally.repeats counted.repeats (is_repeated given) so_far.repeated
          (ap is_repeated is.2 ∙ repeated_is g json (all_noted (map (λ c. c.game) xs)) game found is.0 one.0 is.1)
          repeats;
      some = inr some;
      wrote = Appends-trans before after written so_far.text one.0 so_far.wrote one.1;
    }

-- the last text by the number of problems is that by the problems
last_is : (json must_exist : Bool) (tally : Tally) (problems : List Compared)
    → (length problems ≤ MAX_PROBLEMS + 1 → tally.counts.shown ≡ length problems)
    → (problems ≡ []) ⊎ (1 ≤ tally.counts.shown)
    → last_of json must_exist tally ≡ last_text json must_exist problems tally.repeats tally.positions
last_is json true tally [] shown some =
    let none = shown (omega arith) in rw none refl
last_is json false tally [] shown some = refl
last_is json true tally (p ∷ ps) shown (inl none) = cc
last_is json true tally (p ∷ ps) shown (inr some) =
    let text = count_text json tally.repeats tally.positions in
    (elim (nat_eq tally.counts.shown 0) as (λ b. nat_eq tally.counts.shown 0 ≡ b → cond {A = List ℕ} b [] text ≡ text) [
      | true ↦ λ t. absurd (let zero' = eqb-true tally.counts.shown 0 t in omega (arith, some))
      | false ↦ λ t. refl
    ]) refl
last_is json false tally (p ∷ ps) shown some = refl

abbrev pub whole_of : (g : Geometry) (query : SameArgs) (portion : Portion) → List NumberedGame → List ℕ → Type 0
whole_of g query portion games text = (counts : Counts) × IsSameOf g query portion games counts text

-- the whole output of the games so far
all_of : {B : Type 0} (g : Geometry) (query : SameArgs) (portion : Portion) (must_exist : Bool)
    (Old New : List ℕ → List NumberedGame → Type 0) (tally : Tally) (index : ProblemIndex B) (before after : List ℕ)
    (last : List ℕ) (so_far : SoFar g query.json Old New tally index before after) → must_exist ≡ portion.must_exist
    → last ≡ last_of query.json must_exist tally
    → IsSameOf g query portion (map (λ c. c.game) so_far.problems) tally.counts (so_far.text ++ last)
all_of g query portion must_exist Old New tally index before after last so_far same is = record {
  problems = so_far.problems;
  are = refl;
  texts = so_far.text;
  each = so_far.each;
  repeats = tally.repeats;
  positions = tally.positions;
  repeated = so_far.repeated;
  known = so_far.known;
  shown = so_far.shown;
  refused = so_far.refused;
  is = ap (λ z. so_far.text ++ z) (is ∙ (ap (λ m. last_of query.json m tally) same
      ∙ last_is query.json portion.must_exist tally so_far.problems so_far.shown so_far.some));
}

-- no more comes
pub all_written : {B : Type 0} (g : Geometry) (query : SameArgs) (portion : Portion) (must_exist : Bool)
    (Old Mid : List ℕ → List NumberedGame → Type 0) (MayBe : List ℕ → Type 0) (tally : Tally)
    (index : ProblemIndex B) (before after ended : List ℕ) → SoFar g query.json Old Mid tally index before after
    → HandsOut Mid Mid MayBe None → must_exist ≡ portion.must_exist
    → Appends after ended (last_of query.json must_exist tally)
    → (games : List NumberedGame) × (text : List ℕ) × ((whole : List ℕ) → MayBe whole → Old whole games)
    × IsSameOf g query portion games tally.counts text × Appends before ended text
all_written g query portion must_exist Old Mid MayBe tally index before after ended so_far none same wrote =
    let last = last_of query.json must_exist tally in (
      map (λ c. c.game) so_far.problems,
      so_far.text ++ last,
      λ whole may. subst (Old whole) (append-nil (map (λ c. c.game) so_far.problems))
          (so_far.handed whole [] (none whole may)),
      all_of g query portion must_exist Old Mid tally index before after last so_far same refl,
      Appends-trans before after ended so_far.text last so_far.wrote wrote,
    )

-- ---- what stands after a fault

-- the texts so far, and nothing more
part_of : {B : Type 0} (g : Geometry) (query : SameArgs) (Old New : List ℕ → List NumberedGame → Type 0)
    (tally : Tally) (index : ProblemIndex B) (before after : List ℕ)
    (so_far : SoFar g query.json Old New tally index before after) (more : List NumberedGame) (none : List ℕ)
    → none ≡ [] → IsSamePart g query (map (λ c. c.game) so_far.problems ++ more) (so_far.text ++ none)
part_of g query Old New tally index before after so_far more none is = record {
  problems = so_far.problems;
  behind = more;
  are = refl;
  each = subst (AreCompared g query.json so_far.problems)
      (sym (ap (λ z. so_far.text ++ z) is ∙ append-nil so_far.text)) so_far.each;
}

-- a fault between two games
pub left_between : {B : Type 0} (g : Geometry) (query : SameArgs) (Whole : List NumberedGame → List ℕ → Type 0)
    (Old Mid : List ℕ → List NumberedGame → Type 0) (MayBe : List ℕ → Type 0) (tally : Tally) (index : ProblemIndex B)
    (before after : List ℕ) (fault : DeskFault) → SoFar g query.json Old Mid tally index before after
    → ((whole : List ℕ) → MayBe whole → (games : List NumberedGame) × Mid whole games)
    → StandsOf (IsSamePart g query) Whole MayBe Old before after fault
left_between g query Whole Old Mid MayBe tally index before after fault so_far some =
    left_so_far (IsSamePart g query) Whole MayBe Old before after so_far.text fault so_far.wrote (λ whole may.
    let more = some whole may in (
      map (λ c. c.game) so_far.problems ++ more.0,
      so_far.handed whole more.0 more.1,
      record { problems = so_far.problems; behind = more.0; are = refl; each = so_far.each },
    ))

-- a fault at the text of a problem
pub left_within : {B : Type 0} (g : Geometry) (query : SameArgs) (Whole : List NumberedGame → List ℕ → Type 0)
    (Old Mid New : List ℕ → List NumberedGame → Type 0) (MayBe : List ℕ → Type 0) (tally : Tally)
    (index : ProblemIndex B) (before after written : List ℕ) (game : NumberedGame) (fault : DeskFault)
    → SoFar g query.json Old Mid tally index before after → HandsOut Mid New MayBe (Some game)
    → ((whole : List ℕ) → MayBe whole → (games : List NumberedGame) × New whole games)
    → Stands (λ text. text ≡ []) (λ text. (given : Outcome) × Compares g query.json index game given text) after
    written fault
    → StandsOf (IsSamePart g query) Whole MayBe Old before written fault
left_within g query Whole Old Mid New MayBe tally index before after written game fault so_far handed some stands =
    let xs = so_far.problems in
    left_after (IsSamePart g query) Whole (λ text. text ≡ [])
    (λ text. (given : Outcome) × Compares g query.json index game given text) MayBe Old before after written
    so_far.text fault so_far.wrote stands (λ whole may. let more = some whole may in (
      map (λ c. c.game) xs ++ game ∷ more.0,
      so_far.handed whole (game ∷ more.0) (handed whole more.0 more.1),
      part_of g query Old Mid tally index before after so_far (game ∷ more.0),
      λ one compares.
          let is = compares.1 (all_noted (map (λ c. c.game) xs)) so_far.added in
          let this : Compared = record { game = game; repeat = is.0 } in
          inl (record {
            problems = xs ++ this ∷ [];
            behind = more.0;
            are = sym (ap (λ t. t ++ more.0) (map-append (λ c. c.game) xs (this ∷ []))
                ∙ append_assoc (map (λ c. c.game) xs) (game ∷ []) more.0);
            each = one_compared this one so_far.each is.1;
          }),
    ))

-- a fault at the last text
pub left_at_end : {B : Type 0} (g : Geometry) (query : SameArgs) (portion : Portion) (must_exist : Bool)
    (Old Mid : List ℕ → List NumberedGame → Type 0) (MayBe : List ℕ → Type 0) (tally : Tally) (index : ProblemIndex B)
    (before after written : List ℕ) (fault : DeskFault) → SoFar g query.json Old Mid tally index before after
    → HandsOut Mid Mid MayBe None → must_exist ≡ portion.must_exist
    → Stands (λ text. text ≡ []) (λ text. text ≡ last_of query.json must_exist tally) after written fault
    → StandsOf (IsSamePart g query) (whole_of g query portion) MayBe Old before written fault
left_at_end g query portion must_exist Old Mid MayBe tally index before after written fault so_far none same stands =
    let games = map (λ c. c.game) so_far.problems in
    left_after (IsSamePart g query) (whole_of g query portion) (λ text. text ≡ [])
    (λ text. text ≡ last_of query.json must_exist tally) MayBe Old before after written so_far.text fault so_far.wrote
    stands (λ whole may. (
      games,
      subst (Old whole) (append-nil games) (so_far.handed whole [] (none whole may)),
      λ nothing is. subst (λ z. IsSamePart g query z (so_far.text ++ nothing)) (append-nil games)
          (part_of g query Old Mid tally index before after so_far [] nothing is),
      λ last is. inr (
        tally.counts,
        all_of g query portion must_exist Old Mid tally index before after last so_far same is,
      ),
    ))
