-- The parts of a page.
use Rattle.std.proofs.Common.{◌≡◌, ◌++◌, ◌∷◌, ◌∙◌, ◌+◌, ◌<◌, ◌≤◌, ap, refl, sym, subst, arith, ℕ, Bool, List, [], Bor}
use Rattle.std.proofs.Common.{Option, Some, None, MatchOption, cond, flat_map, map, length, option_map, append-nil}
use Rattle.std.proofs.Common.{append_assoc, length-append, ◌⊎◌, inl, inr, true, false}
use Rattle.dw_notation.specs.Streams.{Appends}
use Rattle.std.specs.List.{All, cons_option, count_by, filter_map}
use Rattle.std.specs.Prelude.{codes}
use Rattle.dw_notation.specs.inner.StreamLemmas.{Appends-nil, Appends-trans}
use Rattle.std.proofs.lemmas.Grind.{flat_map-append}
use Rattle.std.proofs.lemmas.List.{map-append, length-map}
use Rattle.std.proofs.lemmas.List.Elements.{All-push}
use Rattle.std.proofs.lemmas.List.Sums.{count_by-le-length, sum_by_push}
use Rattle.dw_board.specs.Geometry.{Geometry}
use Rattle.dw_desk_commands.specs.declared.desk.DeskFault.{DeskFault}
use Rattle.dw_desk_commands.specs.inner.Choosing.{HandsOut}
use Rattle.dw_desk_commands.specs.inner.Standing.{Stands, StandsOf}
use Rattle.dw_desk_commands.proofs.StandingLemmas.{left_after, left_so_far}
use Rattle.dw_arguments.specs.declared.portion.Portion.{Portion}
use Rattle.dw_desk_commands.specs.Page.{IsPage, IsPageOf, IsPagePart, IsPageStop, IsPart, IsShownIn, Shown}
use Rattle.dw_desk_commands.specs.Page.{first_of, heading_of}
use Rattle.dw_desk_commands.specs.Page.{language_for, source, value}
use Rattle.dw_desk_commands.specs.declared.desk.Counts.{Counts}
use Rattle.dw_arguments.specs.declared.page.PageArgs.{PageArgs}
use Rattle.dw_games.specs.Games.{NumberedGame}
use Rattle.dw_games.specs.TagRows.{said_by, tag_text}
use Rattle.dw_notation.specs.declared.tags.Tag.{Tag as ReadTag}
use Rattle.dw_notation.specs.Tags.{Tag, values_named}
use Rattle.dw_notation.specs.declared.problems.TheConstants.{MAX_PROBLEMS}
use Rattle.dw_page.specs.Pages.{end, head}

-- what was found under a name
pub value_is : (name : List ℕ) (tags : List Tag) (found : Option (Bor (List ℕ)))
    → MatchOption found (values_named name tags ≡ [])
    (λ v. (others : List (List ℕ)) × (values_named name tags ≡ v.now ∷ others))
    → option_map (λ v. v.now) found ≡ value name tags
value_is name tags None h = sym (ap first_of h)
value_is name tags (Some v) h = sym (ap first_of h.1)

pub source_is : (tags : List Tag) (event site date : Option (Bor (List ℕ)))
    → option_map (λ v. v.now) event ≡ value (codes "Event") tags
    → option_map (λ v. v.now) site ≡ value (codes "Site") tags
    → option_map (λ v. v.now) date ≡ value (codes "Date") tags
    → filter_map (option_map (λ v. v.now)) (event ∷ site ∷ date ∷ []) ≡ source tags
source_is tags event site date one two three =
    ap (λ o. cons_option o (cons_option (option_map (λ v. v.now) site)
    (cons_option (option_map (λ v. v.now) date) []))) one
    ∙ (ap (λ o. cons_option (value (codes "Event") tags) (cons_option o
    (cons_option (option_map (λ v. v.now) date) []))) two
    ∙ ap (λ o. cons_option (value (codes "Event") tags) (cons_option (value (codes "Site") tags) (cons_option o [])))
    three)

pub said_map : (read : List ReadTag) → said_by read ≡ map (λ t. t.tag) (map tag_text read)
said_map [] = refl
said_map (t ∷ read) = ap (λ z. (tag_text t).tag ∷ z) (said_map read)

-- what is written of the games that were handed out, and what is to come later
pub record SoFar (g : Geometry) (query : PageArgs) (Old New : List ℕ → List NumberedGame → Type 0)
    (counts : Counts) (before after later : List ℕ) : Type 0 where
  pub shown : List Shown
  pub handed : (whole : List ℕ) (more : List NumberedGame) → New whole more
      → Old whole (map (λ s. s.game) shown ++ more)
  pub each : All (IsShownIn g query) shown
  pub number : length shown ≤ MAX_PROBLEMS + 1 → counts.shown ≡ length shown
  pub refused : length shown ≤ MAX_PROBLEMS + 1 → counts.refused ≡ count_by (λ s. s.is_refused) shown
  pub wrote : Appends before after
      (head g (language_for query.language) query.title.now ++ flat_map (λ s. s.part) shown)
  pub kept : later ≡ heading_of query.solutions (language_for query.language) ++ flat_map (λ s. s.later) shown

pub none_yet : (g : Geometry) (query : PageArgs) (Old : List ℕ → List NumberedGame → Type 0)
    (counts : Counts) (before after later : List ℕ) → counts.shown ≡ 0 → counts.refused ≡ 0
    → Appends before after (head g (language_for query.language) query.title.now)
    → later ≡ heading_of query.solutions (language_for query.language) → SoFar g query Old Old counts before after later
none_yet g query Old counts before after later shown refused wrote kept = record {
  shown = [];
  handed = λ whole more these. these;
  each = λ k d lt. absurd (omega (arith, lt));
  number = λ few. shown;
  refused = λ few. refused;
  wrote = subst (Appends before after) (sym (append-nil (head g (language_for query.language) query.title.now))) wrote;
  kept = kept ∙ sym (append-nil (heading_of query.solutions (language_for query.language)));
}

-- the counts with one game more
counted_one : (xs : List Shown) (this : Shown) (counts counted : Counts)
    → (length xs ≤ MAX_PROBLEMS + 1 → counts.shown ≡ length xs)
    → (length xs ≤ MAX_PROBLEMS + 1 → counts.refused ≡ count_by (λ s. s.is_refused) xs)
    → (counts.shown < 4294967295 → counts.refused < 4294967295
    → counted ≡ record { shown = counts.shown + 1; refused = counts.refused + cond this.is_refused 1 0 })
    → length (xs ++ this ∷ []) ≤ MAX_PROBLEMS + 1
    → (counted.shown ≡ length (xs ++ this ∷ [])) × (counted.refused ≡ count_by (λ s. s.is_refused) (xs ++ this ∷ []))
counted_one xs this counts counted number bad_number with few =
    let more = length-append xs (this ∷ []) in
    let room : length xs ≤ MAX_PROBLEMS = omega (arith, few, more) in
    let shown = number (omega (arith, room)) in
    let refused = bad_number (omega (arith, room)) in
    let bad = count_by-le-length (λ s. s.is_refused) xs in
    let is = with (omega (arith, room, shown)) (omega (arith, room, refused, bad)) in (
      ap (λ c. c.shown) is ∙ (ap (λ n. n + 1) shown ∙ sym more),
      ap (λ c. c.refused) is ∙ (ap (λ n. n + cond this.is_refused 1 0) refused
          ∙ sym (sum_by_push (λ s. cond s.is_refused 1 0) xs this)),
    )

-- one more text
flat_push : {X : Type 0} (f : X → List ℕ) (front : List ℕ) (xs : List X) (y : X)
    → (front ++ flat_map f xs) ++ f y ≡ front ++ flat_map f (xs ++ y ∷ [])
flat_push f front xs y =
    append_assoc front (flat_map f xs) (f y)
    ∙ ap (λ t. front ++ t) (sym (flat_map-append f xs (y ∷ []) ∙ ap (λ t. flat_map f xs ++ t) (append-nil (f y))))

-- one more is written
pub then_one : (g : Geometry) (query : PageArgs) (Old Mid New : List ℕ → List NumberedGame → Type 0)
    (MayBe : List ℕ → Type 0) (counts counted : Counts) (before after written later kept : List ℕ)
    (game : NumberedGame) (is_refused : Bool)
    → SoFar g query Old Mid counts before after later → HandsOut Mid New MayBe (Some game)
    → ((part new : List ℕ) × IsPart g query game.number game.said.found game.said.tags is_refused part new
    × (kept ≡ later ++ new) × Appends after written part)
    → (counts.shown < 4294967295 → counts.refused < 4294967295
    → counted ≡ record { shown = counts.shown + 1; refused = counts.refused + cond is_refused 1 0 })
    → SoFar g query Old New counted before written kept
then_one g query Old Mid New MayBe counts counted before after written later kept game is_refused so_far handed one
    with =
    let xs = so_far.shown in
    let this : Shown = record { game = game; is_refused = is_refused; part = one.0; later = one.1 } in
    let counts_one = counted_one xs this counts counted so_far.number so_far.refused with in
    let front = head g (language_for query.language) query.title.now in
    let heading = heading_of query.solutions (language_for query.language) in
    record {
      shown = xs ++ this ∷ [];
      handed = λ whole more these. subst (Old whole)
          (sym (ap (λ t. t ++ more) (map-append (λ s. s.game) xs (this ∷ []))
          ∙ append_assoc (map (λ s. s.game) xs) (game ∷ []) more))
          (so_far.handed whole (game ∷ more) (handed whole more these));
      each = All-push (IsShownIn g query) xs this so_far.each one.2;
      number = λ few. (counts_one few).0;
      refused = λ few. (counts_one few).1;
      wrote = subst (Appends before written) (flat_push (λ s. s.part) front xs this)
          (Appends-trans before after written (front ++ flat_map (λ s. s.part) xs) one.0 so_far.wrote one.4);
      kept = one.3 ∙ (ap (λ t. t ++ one.1) so_far.kept ∙ flat_push (λ s. s.later) heading xs this);
    }

-- no more comes, and the page ends
pub all_written : (g : Geometry) (query : PageArgs) (Old Mid : List ℕ → List NumberedGame → Type 0)
    (MayBe : List ℕ → Type 0) (counts : Counts) (before after ended later : List ℕ)
    → SoFar g query Old Mid counts before after later
    → HandsOut Mid Mid MayBe None → Appends after ended (later ++ end)
    → (games : List NumberedGame) × (text : List ℕ) × ((whole : List ℕ) → MayBe whole → Old whole games)
    × IsPage g query games counts text × Appends before ended text
all_written g query Old Mid MayBe counts before after ended later so_far none wrote =
    let xs = so_far.shown in
    let front = head g (language_for query.language) query.title.now in
    let heading = heading_of query.solutions (language_for query.language) in
    let parts = flat_map (λ s. s.part) xs in
    let laters = flat_map (λ s. s.later) xs in (
      map (λ s. s.game) xs,
      front ++ (parts ++ (heading ++ (laters ++ end))),
      λ whole may. subst (Old whole) (append-nil (map (λ s. s.game) xs)) (so_far.handed whole [] (none whole may)),
      record {
        games_shown = xs;
        are = refl;
        each = so_far.each;
        shown = so_far.number;
        refused = so_far.refused;
        is = refl;
      },
      subst (Appends before ended)
          (ap (λ t. (front ++ parts) ++ (t ++ end)) so_far.kept
          ∙ (ap (λ t. (front ++ parts) ++ t) (append_assoc heading laters end)
          ∙ append_assoc front parts (heading ++ (laters ++ end))))
          (Appends-trans before after ended (front ++ parts) (later ++ end) so_far.wrote wrote),
    )

-- a page of which games are counted has some
pub not_empty : (g : Geometry) (query : PageArgs) (games : List NumberedGame) (counts : Counts) (text : List ℕ)
    → IsPage g query games counts text → 1 ≤ counts.shown → games ≡ [] → ⊥
not_empty g query games counts text page some none =
    let shown = page.games_shown in
    let no_length : length shown ≡ 0 =
    sym (length-map shown (λ s. s.game)) ∙ (ap length (sym page.are) ∙ ap length none) in
    let count = page.shown (omega (arith, no_length)) in
    omega (arith, some, count, no_length)

-- a page of no games
pub page_of_none : (g : Geometry) (query : PageArgs) (portion : Portion) (must_exist : Bool) (counts : Counts)
    (text : List ℕ) → must_exist ≡ portion.must_exist
    → ((IsPage g query [] counts text × (must_exist ≡ false))
    ⊎ ((must_exist ≡ true) × (counts.shown ≡ 0) × (counts.refused ≡ 0) × (text ≡ [])))
    → IsPageOf g query portion [] counts text
page_of_none g query portion must_exist counts text same (inl page) = inl (page.0, λ none. sym same ∙ page.1)
page_of_none g query portion must_exist counts text same (inr none) =
    inr (refl, sym same ∙ none.0, none.1, none.2, none.3)

-- ---- what stands after a fault

abbrev front : Geometry → PageArgs → List ℕ
front g query = head g (language_for query.language) query.title.now

-- a page with nothing but its head
head_alone : (g : Geometry) (query : PageArgs) (games : List NumberedGame) → IsPagePart g query games (front g query)
head_alone g query games = record {
  games_shown = [];
  behind = games;
  are = refl;
  each = λ k d lt. absurd (omega (arith, lt));
  is = sym (append-nil (front g query));
}

-- nothing, or a beginning of the head
pub head_left : (g : Geometry) (query : PageArgs) (games : List NumberedGame) (text : List ℕ) → text ≡ front g query
    → IsPageStop g query games text
head_left g query games text is = inr (subst (IsPagePart g query games) (sym is) (head_alone g query games))

-- the parts of the games so far, and nothing more
pub parts_left : (g : Geometry) (query : PageArgs) (Old New : List ℕ → List NumberedGame → Type 0) (counts : Counts)
    (before after later : List ℕ) (so_far : SoFar g query Old New counts before after later)
    (more : List NumberedGame) (none : List ℕ) → none ≡ []
    → IsPageStop g query (map (λ s. s.game) so_far.shown ++ more)
    ((front g query ++ flat_map (λ s. s.part) so_far.shown) ++ none)
parts_left g query Old New counts before after later so_far more none is = inr (record {
  games_shown = so_far.shown;
  behind = more;
  are = refl;
  each = so_far.each;
  is = ap (λ z. (front g query ++ flat_map (λ s. s.part) so_far.shown) ++ z) is
      ∙ append-nil (front g query ++ flat_map (λ s. s.part) so_far.shown);
})

-- the parts of the games so far, and one more
pub one_part_left : (g : Geometry) (query : PageArgs) (Old New : List ℕ → List NumberedGame → Type 0) (counts : Counts)
    (before after later : List ℕ) (so_far : SoFar g query Old New counts before after later) (game : NumberedGame)
    (more : List NumberedGame) (part : List ℕ) → ((is_refused : Bool) × (new : List ℕ)
    × IsPart g query game.number game.said.found game.said.tags is_refused part new)
    → IsPageStop g query (map (λ s. s.game) so_far.shown ++ game ∷ more)
    ((front g query ++ flat_map (λ s. s.part) so_far.shown) ++ part)
one_part_left g query Old New counts before after later so_far game more part one =
    let xs = so_far.shown in
    let this : Shown = record { game = game; is_refused = one.0; part = part; later = one.1 } in
    inr (record {
      games_shown = xs ++ this ∷ [];
      behind = more;
      are = sym (ap (λ t. t ++ more) (map-append (λ s. s.game) xs (this ∷ []))
          ∙ append_assoc (map (λ s. s.game) xs) (game ∷ []) more);
      each = All-push (IsShownIn g query) xs this so_far.each one.2;
      is = flat_push (λ s. s.part) (front g query) xs this;
    })

-- a fault between two games
pub left_between : (g : Geometry) (query : PageArgs) (Whole : List NumberedGame → List ℕ → Type 0)
    (Old Mid : List ℕ → List NumberedGame → Type 0) (MayBe : List ℕ → Type 0) (counts : Counts)
    (before after later : List ℕ) (fault : DeskFault) → SoFar g query Old Mid counts before after later
    → ((whole : List ℕ) → MayBe whole → (games : List NumberedGame) × Mid whole games)
    → StandsOf (IsPageStop g query) Whole MayBe Old before after fault
left_between g query Whole Old Mid MayBe counts before after later fault so_far some =
    left_so_far (IsPageStop g query) Whole MayBe Old before after
    (front g query ++ flat_map (λ s. s.part) so_far.shown) fault so_far.wrote (λ whole may.
    let more = some whole may in (
      map (λ s. s.game) so_far.shown ++ more.0,
      so_far.handed whole more.0 more.1,
      subst (IsPageStop g query (map (λ s. s.game) so_far.shown ++ more.0))
          (append-nil (front g query ++ flat_map (λ s. s.part) so_far.shown))
          (parts_left g query Old Mid counts before after later so_far more.0 [] refl),
    ))

-- a fault at the part of a game
pub left_within : (g : Geometry) (query : PageArgs) (Whole : List NumberedGame → List ℕ → Type 0)
    (Old Mid New : List ℕ → List NumberedGame → Type 0) (MayBe : List ℕ → Type 0) (counts : Counts)
    (before after written later : List ℕ) (game : NumberedGame) (fault : DeskFault)
    → SoFar g query Old Mid counts before after later → HandsOut Mid New MayBe (Some game)
    → ((whole : List ℕ) → MayBe whole → (games : List NumberedGame) × New whole games)
    → Stands (λ text. text ≡ []) (λ part. (is_refused : Bool) × (new : List ℕ)
    × IsPart g query game.number game.said.found game.said.tags is_refused part new) after written fault
    → StandsOf (IsPageStop g query) Whole MayBe Old before written fault
left_within g query Whole Old Mid New MayBe counts before after written later game fault so_far handed some stands =
    left_after (IsPageStop g query) Whole (λ text. text ≡ []) (λ part. (is_refused : Bool) × (new : List ℕ)
    × IsPart g query game.number game.said.found game.said.tags is_refused part new) MayBe Old before after written
    (front g query ++ flat_map (λ s. s.part) so_far.shown) fault so_far.wrote stands (λ whole may.
    let more = some whole may in (
      map (λ s. s.game) so_far.shown ++ game ∷ more.0,
      so_far.handed whole (game ∷ more.0) (handed whole more.0 more.1),
      parts_left g query Old Mid counts before after later so_far (game ∷ more.0),
      λ part one. inl (one_part_left g query Old Mid counts before after later so_far game more.0 part one),
    ))

-- a fault at the end of the page
pub left_at_end : (g : Geometry) (query : PageArgs) (portion : Portion)
    (Old Mid : List ℕ → List NumberedGame → Type 0) (MayBe : List ℕ → Type 0) (counts : Counts)
    (before after written later : List ℕ) (fault : DeskFault) → SoFar g query Old Mid counts before after later
    → HandsOut Mid Mid MayBe None → 1 ≤ counts.shown
    → Stands (λ text. text ≡ []) (λ text. text ≡ later ++ end) after written fault
    → StandsOf (IsPageStop g query) (λ games text. (counts : Counts) × IsPageOf g query portion games counts text) MayBe
    Old before written fault
left_at_end g query portion Old Mid MayBe counts before after written later fault so_far none some stands =
    let text = front g query ++ flat_map (λ s. s.part) so_far.shown in
    let games = map (λ s. s.game) so_far.shown in
    left_after (IsPageStop g query) (λ games text. (counts : Counts) × IsPageOf g query portion games counts text)
    (λ text. text ≡ []) (λ text. text ≡ later ++ end) MayBe Old before after written text fault so_far.wrote stands
    (λ whole may. (
      games,
      subst (Old whole) (append-nil games) (so_far.handed whole [] (none whole may)),
      λ nothing is. subst (λ z. IsPageStop g query z (text ++ nothing)) (append-nil games)
          (parts_left g query Old Mid counts before after later so_far [] nothing is),
      λ last is. inr (
        counts,
        (let page : IsPage g query games counts (text ++ last) =
            record {
              games_shown = so_far.shown;
              are = refl;
              each = so_far.each;
              shown = so_far.number;
              refused = so_far.refused;
              is = ap (λ z. text ++ z) (is ∙ ap (λ z. z ++ end) so_far.kept
                  ∙ append_assoc (heading_of query.solutions (language_for query.language))
                  (flat_map (λ s. s.later) so_far.shown) end)
                  ∙ append_assoc (front g query) (flat_map (λ s. s.part) so_far.shown) _;
            } in
            inl (page, λ none. absurd (not_empty g query games counts (text ++ last) page some none))),
      ),
    ))

-- a fault on a page of no games
pub left_of_none : (g : Geometry) (query : PageArgs) (portion : Portion) (must_exist : Bool)
    (Old : List ℕ → List NumberedGame → Type 0) (MayBe : List ℕ → Type 0) (before after : List ℕ) (fault : DeskFault)
    → must_exist ≡ portion.must_exist → ((whole : List ℕ) → MayBe whole → Old whole [])
    → Stands (IsPageStop g query []) (λ text. (must_exist ≡ false) × (counts : Counts)
    × IsPage g query [] counts text) before after fault
    → StandsOf (IsPageStop g query) (λ games text. (counts : Counts) × IsPageOf g query portion games counts text) MayBe
    Old before after fault
left_of_none g query portion must_exist Old MayBe before after fault same none stands =
    left_after (IsPageStop g query) (λ games text. (counts : Counts) × IsPageOf g query portion games counts text)
    (IsPageStop g query []) (λ text. (must_exist ≡ false) × (counts : Counts) × IsPage g query [] counts text) MayBe Old
    before before after [] fault (Appends-nil before) stands (λ whole may. (
      [],
      none whole may,
      λ text left. left,
      λ text all. inr (all.1, page_of_none g query portion must_exist all.1 text same (inl (all.2, all.0))),
    ))

-- a fault before any part
pub left_of_head : (g : Geometry) (query : PageArgs) (Whole : List NumberedGame → List ℕ → Type 0)
    (Old New : List ℕ → List NumberedGame → Type 0) (MayBe : List ℕ → Type 0) (before after : List ℕ)
    (game : NumberedGame) (fault : DeskFault) → HandsOut Old New MayBe (Some game)
    → ((whole : List ℕ) → MayBe whole → (games : List NumberedGame) × New whole games)
    → Stands (λ text. text ≡ []) (λ text. text ≡ front g query) before after fault
    → StandsOf (IsPageStop g query) Whole MayBe Old before after fault
left_of_head g query Whole Old New MayBe before after game fault handed some stands =
    left_after (IsPageStop g query) Whole (λ text. text ≡ []) (λ text. text ≡ front g query) MayBe Old before before
    after [] fault (Appends-nil before) stands (λ whole may. let more = some whole may in (
      game ∷ more.0,
      handed whole more.0 more.1,
      λ text none. inl none,
      λ text is. inl (head_left g query (game ∷ more.0) text is),
    ))
