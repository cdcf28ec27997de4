-- Lemmas on handing out games.
use Rattle.std.proofs.Common.{◌≡◌, ◌+◌, ◌≤◌, nat_lt, cond, ℕ, List, [], ◌∷◌, ◌++◌, take, drop, Bool}
use Rattle.std.proofs.Common.{true, false, Option, Some, None, Result, Ok, Err, refl, sym, ap, ◌∙◌, subst, append_assoc}
use Rattle.std.proofs.lemmas.Bool.{ltb-true, true≢false}
use Rattle.dw_notation.specs.inner.StreamLemmas.{Reads-nil}
use Rattle.dw_board.specs.Geometry.{Geometry}
use Rattle.dw_notation.specs.TextLines.{Found}
use Rattle.dw_notation.specs.TagLaws.{TextsOfTagsSay}
use Rattle.dw_notation.specs.declared.problems.TheConstants.{MAX_SECTION, MAX_PROBLEMS}
use Rattle.dw_notation.specs.declared.problems.ProblemFault.TheVariants.{UnclosedComment, TooManyProblems}
use Rattle.dw_games.specs.Games.{Said, told, tags_if_valid, said_with, HasGames, NumberedGame, games_from, AreGames}
use Rattle.dw_games.specs.GameReading.{is_failure, numbered_game, GivesNext}
use Rattle.dw_notation.specs.Buffering.{Input, Passes}
use Rattle.dw_notation.specs.Streams.{Supply, Reads as ReadsBytes}
use Rattle.dw_notation.specs.Numbering.{handed_out}
use Rattle.dw_games.specs.inner.Keeping.{IsKept, IsKeptFor, IsTold, spaces_on, row_of}
use Rattle.dw_games.specs.inner.Playing.{unclosed, Follows, EndsAt, ReadsPlay}
use Rattle.dw_games.specs.inner.Sectioning.{ReadsSection, EndsWell}
use Rattle.dw_games.specs.inner.GameReaders.{Stands, IsAhead, input_in, stage_behind, is_done, counted_found, ReadsGame}
use Rattle.dw_games.specs.inner.GameReaders.{reading_of}
use Rattle.dw_games.specs.declared.games.Game.{Game}
use Rattle.dw_games.specs.declared.games.Games.{Games}
use Rattle.dw_games.specs.declared.games.GameFault.{GameFault}
use Rattle.dw_games.specs.declared.games.Stage.{Stage}
use Rattle.dw_games.specs.declared.games.Stage.TheVariants.{Reading, Open, Over, Stopped}
use Rattle.dw_games.specs.declared.bounded_buf.BoundedBuf.{BoundedBuf}
use Rattle.dw_games.specs.declared.play.PlayEnd.{PlayEnd}
use Rattle.dw_games.specs.declared.play.PlayEnd.TheVariants.{Section, Text, Open as LeftOpen}
use Rattle.dw_games.proofs.InputLemmas.{Passes-trans}
use Rattle.dw_games.proofs.SectionLemmas.{empty_games, row-of_closed}
use Rattle.dw_games.proofs.TrimLemmas.{kept_trimmed}
use Rattle.dw_games.proofs.GameLemmas.{games_some, bracket_front, mark_passed, games_from-one, games_from-over}

-- ---- what may come
pub stands_some : TextsOfTagsSay → (g : Geometry) (stage : Stage) (text : List ℕ) → (said : List Said)
    × Stands g stage text said
stands_some law g Reading text = let r = games_some law g text in (r.1, (r.0, r.2))
stands_some law g Open text = (unclosed ∷ [], refl)
stands_some law g Over text = ([], refl)
stands_some law g (Stopped fault) text = ([], refl)

pub ahead_some : {S : Type 0} → TextsOfTagsSay → (g : Geometry) (input : Input S) (stage : Stage) (handed : ℕ)
    (bytes : List ℕ) → (input.met_end ≡ true → bytes ≡ [])
    → (games : List NumberedGame) × IsAhead g input stage handed bytes games
ahead_some law g input stage handed bytes over =
    let s = stands_some law g stage (input.unread ++ bytes) in
    (games_from handed s.0, record { said = s.0; over = over; stands = s.1; numbers = refl })

-- ---- what follows bytes without a section
none_left : (unread bytes : List ℕ) → unread ≡ [] → bytes ≡ [] → unread ++ bytes ≡ []
none_left unread bytes e h = ap (λ l. l ++ bytes) e ∙ h

follows_of : {S : Type 0} (g : Geometry) (input : Input S) (end : PlayEnd) (bytes : List ℕ) (said : List Said)
    → EndsAt end input → (input.met_end ≡ true → bytes ≡ [])
    → Stands g (stage_behind end) (input.unread ++ bytes) said → Follows g end (input.unread ++ bytes) said
follows_of g input Section bytes said here over stands =
    bracket_front g (drop 1 input.unread ++ bytes) stands.1 (ap (λ l. l ++ bytes) here)
follows_of g input Text bytes said here over stands =
    let none = none_left input.unread bytes here.0 (over here.1) in
    (none, (empty_games g stands.1 none).1)
follows_of g input LeftOpen bytes said here over stands =
    (none_left input.unread bytes here.0 (over here.1), stands)

-- ---- a game is handed out
over_same : {S : Type 0} (new mid : Input S) (bytes : List ℕ) → new ≡ mid → (new.met_end ≡ true → bytes ≡ [])
    → mid.met_end ≡ true → bytes ≡ []
over_same new mid bytes same over met = over (ap (λ i. i.met_end) same ∙ met)

counted_ends : (handed : ℕ) (found : Found) (seen : List ℕ) → EndsWell found seen
    → EndsWell (counted_found handed found) seen
counted_ends handed found seen ends =
    elim (nat_lt handed MAX_PROBLEMS) as (λ v. EndsWell (cond v found (Err TooManyProblems)) seen) [
      | true ↦ ends
      | false ↦ tt
    ]

numbers_on : {B : Type 0} (handed next : ℕ) (found : Found) (text movetext : List ℕ) (game : Game B)
    (games : List NumberedGame) (later : List Said) → handed ≤ 1000000 → games ≡ games_from next later
    → next ≡ handed + 1 → game.problem.number ≡ handed + 1 → game.problem.found ≡ counted_found handed found
    → said_with game.problem.found text movetext ≡ (numbered_game game).said
    → numbered_game game ∷ games ≡ games_from handed (said_with found text movetext ∷ later)
numbers_on handed next found text movetext game games later room numbers count number says same =
    ap (λ l. numbered_game game ∷ l) (numbers ∙ ap (λ n. games_from n later) count)
    ∙ ap (λ s. record { number = game.problem.number; said = s } ∷ games_from (handed + 1) later) (sym same)
    ∙ ap (λ n. record { number = n; said = said_with game.problem.found text movetext } ∷ games_from (handed + 1) later)
    number
    ∙ ap (λ f. record { number = handed + 1; said = said_with f text movetext } ∷ games_from (handed + 1) later) says
    ∙ sym (games_from-one handed found text movetext later room)

none_said : (found : Found) → said_with found [] [] ≡ record { found = found; tags = []; movetext = [] }
none_said (Ok p) = refl
none_said (Err fault) = refl

-- the last one is, which a comment is that is left open
pub open_numbers : {B : Type 0} (handed : ℕ) (game : Game B) → handed ≤ 1000000 → game.problem.number ≡ handed + 1
    → game.problem.found ≡ counted_found handed (Err UnclosedComment) → game.tags.items ≡ [] → game.movetext.items ≡ []
    → numbered_game game ∷ [] ≡ games_from handed (unclosed ∷ [])
open_numbers handed game room number says tags movetext = numbers_on handed (handed + 1) (Err UnclosedComment) [] []
    game [] [] room refl refl number says (none_said game.problem.found ∙ rw (tags, movetext) refl)

-- ---- what is kept of a movetext
take-none : (text : List ℕ) → take 0 text ≡ []
take-none [] = refl
take-none (byte ∷ text) = refl

kept_on : (found : Found) (text passed : List ℕ) (old new : BoundedBuf)
    → ((limit : ℕ) (text : List ℕ) → IsKept limit text old → IsKept limit (text ++ passed) new)
    → IsKeptFor found text old → IsKeptFor found (text ++ passed) new
kept_on (Ok p) text passed old new push is = push _ text is
kept_on (Err fault) text passed old new push is = push _ text is

told_kept : (found : Found) (text items : List ℕ) (kept : BoundedBuf) → IsKeptFor found text kept → items ≡
    kept.bytes.items → told found text ≡ items
told_kept (Ok p) text items kept is same = sym is.bytes ∙ sym same
told_kept (Err fault) text items kept is same = sym (take-none text) ∙ sym is.bytes ∙ sym same

-- ---- what is kept of a section
remarks_row : (found : Found) (seen kept tags : List ℕ) → EndsWell found seen → kept ≡ take MAX_SECTION seen
    → IsTold found kept tags → tags_if_valid found (row_of seen) ≡ tags
remarks_row (Ok p) seen kept tags row same is = row-of_closed seen row ∙ sym (kept_trimmed seen kept tags row same is)
remarks_row (Err fault) seen kept tags row same is = sym is

kept_said : (found : Found) (seen text tags items : List ℕ) (row kept : BoundedBuf) → EndsWell found seen
    → IsKept MAX_SECTION seen row → IsTold found row.bytes.items tags → IsKeptFor found text kept
    → items ≡ kept.bytes.items
    → said_with found (row_of seen) text ≡ record { found = found; tags = tags; movetext = items }
kept_said found seen text tags items row kept ends whole is keeps same =
    ap (λ l. record { found = found; tags = l; movetext = told found text })
    (remarks_row found seen row.bytes.items tags ends whole.bytes is)
    ∙ ap (λ l. record { found = found; tags = tags; movetext = l }) (told_kept found text items kept keeps same)

-- ---- what is passed, and what comes behind it
module _ {S : Type 0} (supply : S → Supply) (is_failed : S → Bool) (pulls : S → ℕ) where
  text_on : (old mid : Input S) (passed bytes : List ℕ) (fails : Bool)
      → (p : Passes supply is_failed pulls old mid passed fails)
      → old.unread ++ (p.read ++ bytes) ≡ passed ++ (mid.unread ++ bytes)
  text_on old mid passed bytes fails p = sym (append_assoc old.unread p.read bytes)
      ∙ ap (λ l. l ++ bytes) p.same ∙ append_assoc passed mid.unread bytes

  over_on : (old mid : Input S) (passed bytes : List ℕ) (fails : Bool)
      → (p : Passes supply is_failed pulls old mid passed fails) → (mid.met_end ≡ true → bytes ≡ [])
      → old.met_end ≡ true → p.read ++ bytes ≡ []
  over_on old mid passed bytes fails p over met =
      let s = p.stays met in ap (λ l. l ++ bytes) s.0 ∙ over s.1

  both_on : (old mid new : Input S) (first second bytes : List ℕ) (fails : Bool)
      → (whole : Passes supply is_failed pulls old new (first ++ second) fails)
      → (p : Passes supply is_failed pulls mid new second fails)
      → old.unread ++ (whole.read ++ bytes) ≡ first ++ (mid.unread ++ (p.read ++ bytes))
  both_on old mid new first second bytes fails whole p =
      text_on old new (first ++ second) bytes fails whole
      ∙ append_assoc first second (new.unread ++ bytes)
      ∙ ap (λ l. first ++ l) (sym (text_on mid new second bytes fails p))

module _ {B S : Type 0} (g : Geometry) (supply : S → Supply) (is_failed : S → Bool)
    (pulls : S → ℕ) where
  abbrev Reads : Games B S → Games B S → Result (Option (Game B)) GameFault → Type 0
  Reads = ReadsGame g supply is_failed pulls

  pub ReadsGame-fault : (old new : Games B S) (passed : List ℕ) (fault : GameFault)
      → Passes supply is_failed pulls (input_in old) (input_in new) passed (is_failure {A = Option (Game B)}
      (Err fault)) → Reads old new (Err fault)
  ReadsGame-fault old new passed fault passes = record { passed = passed; passes = passes; gives = tt }

  -- a section is read, and what stands behind it
  pub ReadsGame-section : TextsOfTagsSay → (old new : Games B S) (between : Input S)
      (begun row spaces read kept movetext : BoundedBuf) (found : Found) (end : PlayEnd) (game : Game B)
      → (section : ReadsSection g supply is_failed pulls (input_in old) between begun row spaces read
      (Ok (Some found)))
      → (play : ReadsPlay supply is_failed pulls between (input_in new) kept movetext (Ok end))
      → IsKept MAX_SECTION [] begun → IsTold game.problem.found row.bytes.items game.tags.items
      → IsKept 1048577 [] spaces → ((text : List ℕ) → IsKept 1048577 text read → IsKeptFor game.problem.found text kept)
      → game.movetext.items ≡ movetext.bytes.items → (new.stage ≡ stage_behind end)
      → handed_out old.numbers ≤ 1000000 → handed_out new.numbers ≡ handed_out old.numbers + 1
      → game.problem.number ≡ handed_out old.numbers + 1
      → game.problem.found ≡ counted_found (handed_out old.numbers) found
      → Reads old new (Ok (Some game))
  ReadsGame-section law old new between begun row spaces read kept movetext found end game section play
      empty told none keep same stage room count number says =
      let passes = Passes-trans supply is_failed pulls (input_in old) between (input_in new) section.passed
      play.passed false section.passes play.passes in
      let text = spaces_on [] section.passed ++ play.passed in
      let is_kept = kept_on game.problem.found (spaces_on [] section.passed) play.passed kept movetext play.kept
      (keep (spaces_on [] section.passed) (section.kept 1048577 none)) in
      let ends = subst (λ f. EndsWell f section.passed) (sym says)
      (counted_ends (handed_out old.numbers) found section.passed section.ends) in
      let x = kept_said game.problem.found section.passed text game.tags.items game.movetext.items row movetext ends
      (section.rows MAX_SECTION empty) told is_kept same in
      record {
        passed = section.passed ++ play.passed;
        passes = passes;
        gives = (
          λ bytes games ahead.
              let stands = subst (λ s. Stands g s ((input_in new).unread ++ bytes) ahead.said) stage ahead.stands in
              let behind = play.said g bytes ahead.said (follows_of g (input_in new) end bytes ahead.said play.ends
              ahead.over stands) in
              let all = section.said (play.passes.read ++ bytes) play.passed ahead.said
              (over_on supply is_failed pulls between (input_in new) play.passed bytes false play.passes
              ahead.over) (subst (λ l. HasGames g l play.passed ahead.said)
              (sym (text_on supply is_failed pulls between (input_in new) play.passed bytes false
              play.passes)) behind) in
              record {
                said = said_with found (row_of section.passed) text ∷ ahead.said;
                over = over_on supply is_failed pulls (input_in old) (input_in new) (section.passed ++
                    play.passed) bytes false passes ahead.over;
                stands = (
                  [],
                  subst (λ l. HasGames g l [] (said_with found (row_of section.passed) text ∷ ahead.said))
                      (sym (both_on supply is_failed pulls (input_in old) between (input_in new)
                      section.passed play.passed bytes false passes play.passes)) all,
                );
                numbers = numbers_on (handed_out old.numbers) (handed_out new.numbers) found (row_of section.passed)
                    text game games ahead.said room ahead.numbers count number says x;
              },
          λ bytes over. ahead_some law g (input_in new) new.stage (handed_out new.numbers) bytes over,
        );
      }

  -- what stands before a section is passed, and then a game is read
  front_on : (old mid : Games B S) (before after : BoundedBuf)
      → (play : ReadsPlay supply is_failed pulls (input_in old) (input_in mid) before after (Ok Section))
      → mid.numbers ≡ old.numbers → (read rest : List ℕ) (games : List NumberedGame)
      → (input_in old).unread ++ rest ≡ play.passed ++ ((input_in mid).unread ++ read)
      → ((input_in old).met_end ≡ true → rest ≡ []) → IsAhead g (input_in mid) Reading (handed_out mid.numbers) read
      games → IsAhead g (input_in old) Reading (handed_out old.numbers) rest games
  front_on old mid before after play handed read rest games text over ahead = record {
    said = ahead.said;
    over = over;
    stands = (
      play.passed,
      subst (λ l. HasGames g l play.passed ahead.said) (sym text)
          (play.said g read ahead.said (bracket_front g (drop 1 ((input_in mid).unread) ++ read) ahead.stands.1
          (ap (λ l. l ++ read) play.ends))),
    );
    numbers = ahead.numbers ∙ ap (λ c. games_from (handed_out c) ahead.said) handed;
  }

  pub ReadsGame-front : (old mid new : Games B S) (before after : BoundedBuf) (result : Result (Option (Game B))
      GameFault) → ReadsPlay supply is_failed pulls (input_in old) (input_in mid) before after (Ok Section)
      → mid.numbers ≡ old.numbers → Reads mid new result → Reads old new result
  ReadsGame-front old mid new before after (Err fault) play handed game = ReadsGame-fault old new
      (play.passed ++ game.passed) fault
      (Passes-trans supply is_failed pulls (input_in old) (input_in mid) (input_in new) play.passed
      game.passed _ play.passes game.passes)
  ReadsGame-front old mid new before after (Ok None) play handed game =
      let passes = Passes-trans supply is_failed pulls (input_in old) (input_in mid) (input_in new)
      play.passed game.passed false play.passes game.passes in
      record {
        passed = play.passed ++ game.passed;
        passes = passes;
        gives = (
          game.gives.0,
          λ bytes over. front_on old mid before after play handed (game.passes.read ++ bytes) (passes.read ++ bytes) []
              (both_on supply is_failed pulls (input_in old) (input_in mid) (input_in new) play.passed
              game.passed bytes false passes game.passes)
              (over_on supply is_failed pulls (input_in old) (input_in new) (play.passed ++ game.passed) bytes
              false passes over)
              (game.gives.1 bytes over),
        );
      }
  ReadsGame-front old mid new before after (Ok (Some one)) play handed game =
      let passes = Passes-trans supply is_failed pulls (input_in old) (input_in mid) (input_in new)
      play.passed game.passed false play.passes game.passes in
      record {
        passed = play.passed ++ game.passed;
        passes = passes;
        gives = (
          λ bytes games ahead. front_on old mid before after play handed (game.passes.read ++ bytes)
              (passes.read ++ bytes) (numbered_game one ∷ games)
              (both_on supply is_failed pulls (input_in old) (input_in mid) (input_in new) play.passed
              game.passed bytes false passes game.passes)
              (over_on supply is_failed pulls (input_in old) (input_in new) (play.passed ++ game.passed) bytes
              false passes ahead.over)
              (game.gives.0 bytes games ahead),
          game.gives.1,
        );
      }

  -- no section comes, but a comment is left open
  pub ReadsGame-open : TextsOfTagsSay → (old new : Games B S) (mid : Input S) (before after : BoundedBuf) (game : Game
      B) → ReadsPlay supply is_failed pulls (input_in old) mid before after (Ok LeftOpen)
      → (input_in new) ≡ mid → (new.stage ≡ Over)
      → numbered_game game ∷ [] ≡ games_from (handed_out old.numbers) (unclosed ∷ []) → Reads old new (Ok (Some game))
  ReadsGame-open law old new mid before after game play input stage given =
      let passes = subst (λ i. Passes supply is_failed pulls (input_in old) i play.passed false) (sym input)
      play.passes in
      record {
        passed = play.passed;
        passes = passes;
        gives = (
          λ bytes games ahead.
              let over = over_same (input_in new) mid bytes input ahead.over in
              let none : ahead.said ≡ [] = subst (λ s. Stands g s ((input_in new).unread ++ bytes) ahead.said) stage
              ahead.stands in
              let text = none_left mid.unread bytes play.ends.0 (over play.ends.1) in
              record {
                said = unclosed ∷ [];
                over = over_on supply is_failed pulls (input_in old) (input_in new) play.passed bytes false
                    passes ahead.over;
                stands = (
                  play.passed,
                  subst (λ l. HasGames g l play.passed (unclosed ∷ []))
                      (sym (text_on supply is_failed pulls (input_in old) (input_in new) play.passed bytes
                      false passes ∙ ap (λ i. play.passed ++ (i.unread ++ bytes)) input))
                      (play.said g bytes (unclosed ∷ []) (text, refl)),
                );
                numbers = ap (λ l. numbered_game game ∷ l) (ahead.numbers ∙ ap (games_from (handed_out new.numbers))
                    none) ∙ given;
              },
          λ bytes over. ahead_some law g (input_in new) new.stage (handed_out new.numbers) bytes over,
        );
      }

  -- the text ends
  pub ReadsGame-end : (old new : Games B S) (before after : BoundedBuf)
      → ReadsPlay supply is_failed pulls (input_in old) (input_in new) before after (Ok Text) → (new.stage ≡
      Over) → Reads old new (Ok None)
  ReadsGame-end old new before after play stage = record {
    passed = play.passed;
    passes = play.passes;
    gives = (
      stage,
      λ bytes over. record {
        said = [];
        over = over_on supply is_failed pulls (input_in old) (input_in new) play.passed bytes false
            play.passes over;
        stands = (
          play.passed,
          subst (λ l. HasGames g l play.passed [])
              (sym (text_on supply is_failed pulls (input_in old) (input_in new) play.passed bytes false
              play.passes))
              (play.said g bytes [] (none_left ((input_in new).unread) bytes play.ends.0 (over play.ends.1), refl)),
        );
        numbers = refl;
      },
    );
  }

-- ---- nothing was read
pub fresh : {S : Type 0} (g : Geometry) (input : Input S) (handed : ℕ) (bytes : List ℕ) (games : List NumberedGame)
    → input.unread ≡ [] → handed ≡ 0 → IsAhead g input Reading handed bytes games → AreGames g bytes games
fresh g input handed bytes games none zero ahead =
    let has = subst (λ l. HasGames g (l ++ bytes) ahead.stands.0 ahead.said) none ahead.stands.1 in
    let marked = mark_passed g bytes ahead.stands.0 ahead.said has in
    record {
      front = marked.0;
      said = ahead.said;
      has = marked.1;
      numbers = ahead.numbers ∙ ap (λ n. games_from n ahead.said) zero;
    }

pub fresh_some : TextsOfTagsSay → {S : Type 0} (g : Geometry) (input : Input S) (handed : ℕ) (bytes : List ℕ)
    → input.met_end ≡ false → (games : List NumberedGame) × IsAhead g input Reading handed bytes games
fresh_some say g input handed bytes unmet =
    let some = stands_some say g Reading (input.unread ++ bytes) in (
      games_from handed some.0,
      record { said = some.0; over = λ met. absurd (true≢false (sym met ∙ unmet)); stands = some.1; numbers = refl },
    )

-- ---- a comment is left open, and was not yet told
pub open_given : {B S : Type 0} (g : Geometry) (supply : S → Supply) (old new : Games B S) (game : Game B)
    → (old.stage ≡ Open) → (input_in new) ≡ (input_in old) → (new.stage ≡ Over)
    → numbered_game game ∷ [] ≡ games_from (handed_out old.numbers) (unclosed ∷ [])
    → GivesNext g (supply (input_in old).source) (supply (input_in new).source) (reading_of old) (reading_of new)
    (Ok (Some game))
unfolding reading_of
open_given g supply old new game here input stage given = record {
  read = [];
  still = λ met. (refl, ap (λ i. i.met_end) input ∙ met);
  took = subst (λ i. ReadsBytes (supply (input_in old).source) (supply i.source) []) (sym input)
      (Reads-nil (supply (input_in old).source));
  gives = (
    λ bytes games ahead.
        let none : ahead.said ≡ [] = subst (λ s. Stands g s ((input_in new).unread ++ bytes) ahead.said) stage
        ahead.stands in
        record {
          said = unclosed ∷ [];
          over = over_same (input_in new) (input_in old) bytes input ahead.over;
          stands = subst (λ s. Stands g s ((input_in old).unread ++ bytes) (unclosed ∷ [])) (sym here) refl;
          numbers = ap (λ l. numbered_game game ∷ l) (ahead.numbers ∙ ap (games_from (handed_out new.numbers)) none) ∙
              given;
        },
    λ bytes over. (
      [],
      record {
        said = [];
        over = over;
        stands = subst (λ s. Stands g s ((input_in new).unread ++ bytes) []) (sym stage) refl;
        numbers = refl;
      },
    ),
  );
}

-- ---- all games are handed out
over_games : (stage : Stage) (handed : ℕ) (said : List Said) (text : List ℕ) (g : Geometry)
    → is_done stage handed ≡ true → Stands g stage text said → games_from handed said ≡ []
over_games Reading handed said text g over stands = games_from-over handed said (ltb-true 1000000 handed over)
over_games Open handed said text g over stands = games_from-over handed said (ltb-true 1000000 handed over)
over_games Over handed said text g over stands = ap (games_from handed) stands
over_games (Stopped fault) handed said text g over stands = ap (games_from handed) stands

pub over_given : {B S : Type 0} → TextsOfTagsSay → (g : Geometry) (supply : S → Supply) (games : Games B S)
    → is_done games.stage (handed_out games.numbers) ≡ true
    → GivesNext {B = B} g (supply (input_in games).source) (supply (input_in games).source) (reading_of games)
    (reading_of games) (Ok None)
unfolding reading_of
over_given law g supply games over = record {
  read = [];
  took = Reads-nil (supply (input_in games).source);
  still = λ met. (refl, met);
  gives = (
    over,
    λ bytes may.
        let s = stands_some law g games.stage ((input_in games).unread ++ bytes) in record {
          said = s.0;
          over = may;
          stands = s.1;
          numbers = sym (over_games games.stage (handed_out games.numbers) s.0 ((input_in games).unread ++ bytes) g over
              s.1);
        },
  );
}
