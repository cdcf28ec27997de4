-- The chosen games: what is handed out in turn is what is defined.
use Rattle.std.proofs.Common.{◌≡◌, ◌∙◌, ◌+◌, ◌-◌, ◌<◌, ◌≤◌, ◌++◌, ◌∷◌, inl, inr, refl, sym, ap, subst, arith, ℕ, zero}
use Rattle.std.proofs.Common.{suc, Bool, true, false, List, [], Option, Some, None, length, map, take, cond, ltb, eqb}
use Rattle.std.proofs.Common.{leb, Ok, append-nil, take_all, zero-le, append_assoc}
use Rattle.std.specs.Prelude.{filter, option_map, IfSome, MatchBool, Result}
use Rattle.std.proofs.lemmas.Bool.{cases_Bool, and_right, eqb-true, leb-true, lt-leb, ltb-true, true≢false}
use Rattle.std.proofs.lemmas.List.{append_cancel_left}
use Rattle.dw_board.specs.Geometry.{Geometry}
use Rattle.dw_desk_commands.specs.Chosen.{as_game, AreChosen, AreGamesIn, is_up_to, is_in}
use Rattle.dw_desk_commands.specs.inner.Choosing.{HandsOut, AreAhead, AreComing, AreLeft, Comes, ComesNext, EndIsKnown}
use Rattle.dw_desk_commands.specs.inner.Choosing.{AreToCome, GoesOn, HaveGames, IsPossible, IsRest, MayBe, is_met}
use Rattle.dw_desk_commands.specs.inner.Choosing.{met_end, source_of, up_to}
use Rattle.dw_desk_commands.specs.inner.NextGame.{IsNext}
use Rattle.dw_desk_commands.specs.declared.chosen.Chosen.{Chosen}
use Rattle.dw_desk_commands.specs.declared.chosen.Text.{Text}
use Rattle.dw_desk_commands.specs.declared.chosen.Text.TheVariants as texts
use Rattle.dw_arguments.specs.declared.portion.Portion.{Portion}
use Rattle.dw_games.specs.GameReading as games
use Rattle.dw_games.specs.GameReading.{numbered_game}
use Rattle.dw_games.specs.Games.{NumberedGame, Said, games_from}
use Rattle.dw_games.specs.declared.games.Game.{Game}
use Rattle.dw_games.specs.declared.games.GameFault.{GameFault}
use Rattle.dw_games.specs.declared.games.Games.{Games}
use Rattle.dw_games.specs.inner.GameReaders.{reading_of}
use Rattle.dw_notation.specs.Problems.{Numbered, number_from, numbered}
use Rattle.dw_notation.specs.Reading as problems
use Rattle.dw_notation.specs.Streams.{Supply, Reads, MeetsEnd, HoldsAhead}
use Rattle.dw_notation.specs.inner.Readers.{reader_of}
use Rattle.dw_notation.specs.inner.StreamLemmas.{Reads-nil, Reads-trans}
use Rattle.dw_notation.specs.declared.problems.Problem.{Problem}
use Rattle.dw_notation.specs.declared.problems.ReadFault.{ReadFault}
use Rattle.dw_notation.specs.declared.problems.reader.Problems.{Problems}
use Rattle.dw_notation.specs.TextLines.{Found}
use Rattle.dw_notation.specs.declared.problems.Form.{Form}
use Rattle.dw_notation.specs.declared.problems.Form.TheVariants.{Fens, Pdn}
use Rattle.dw_notation.specs.declared.problems.TheConstants.{MAX_PROBLEMS}

-- ---- how games are numbered

-- one by one behind so many, and no more than there may be
abbrev AreNumbered : ℕ → List NumberedGame → Type 0
AreNumbered n [] = n ≤ MAX_PROBLEMS + 1
AreNumbered n (game ∷ games) = (game.number ≡ n + 1) × AreNumbered (n + 1) games

numbered_games : (n : ℕ) (said : List Said) → n ≤ MAX_PROBLEMS + 1 → AreNumbered n (games_from n said)
numbered_games n [] few = few
numbered_games n (s ∷ said) few = elim (cases_Bool (ltb n MAX_PROBLEMS)) [
  | inl room ↦ let less = ltb-true n MAX_PROBLEMS room in
      rw room (refl, numbered_games (n + 1) said (omega (arith, less)))
  | inr full ↦ elim (cases_Bool (eqb n MAX_PROBLEMS)) [
    | inl last ↦ let same = eqb-true n MAX_PROBLEMS last in rw (full, last) (refl, omega (arith, same))
    | inr none ↦ rw (full, none) few
  ]
]

numbered_problems : (n : ℕ) (found : List Found) → n ≤ MAX_PROBLEMS + 1
    → AreNumbered n (map as_game (number_from n found))
numbered_problems n [] few = few
numbered_problems n (f ∷ found) few = elim (cases_Bool (ltb n MAX_PROBLEMS)) [
  | inl room ↦ let less = ltb-true n MAX_PROBLEMS room in
      rw room (refl, numbered_problems (n + 1) found (omega (arith, less)))
  | inr full ↦ elim (cases_Bool (eqb n MAX_PROBLEMS)) [
    | inl last ↦ let same = eqb-true n MAX_PROBLEMS last in rw (full, last) (refl, omega (arith, same))
    | inr none ↦ rw (full, none) few
  ]
]

are_numbered : (g : Geometry) (form : Form) (text : List ℕ) (games : List NumberedGame) → AreGamesIn g form text games
    → AreNumbered 0 games
are_numbered g Fens text games are =
    subst (AreNumbered 0) (sym (are.2 ∙ ap (map as_game) are.1.numbers)) (numbered_problems 0 are.1.found (omega arith))
are_numbered g Pdn text games are = subst (AreNumbered 0) (sym are.numbers) (numbered_games 0 are.said (omega arith))

no_more : (n : ℕ) (games : List NumberedGame) → AreNumbered n games → n + length games ≤ MAX_PROBLEMS + 1
no_more n [] few = omega (arith, few)
no_more n (game ∷ games) are = let rest = no_more (n + 1) games are.1 in omega (arith, rest)

-- ---- a portion of them

abbrev in_portion : Portion → List NumberedGame → List NumberedGame
in_portion portion games = filter (λ game. is_in portion game.number) games

-- behind the last number none is in the portion
none_behind : (portion : Portion) (last n : ℕ) (games : List NumberedGame) → portion.last ≡ Some last → last ≤ n
    → AreNumbered n games → in_portion portion games ≡ []
none_behind portion last n [] is past are = refl
none_behind portion last n (game ∷ games) is past are =
    let out : leb game.number last ≡ false = lt-leb game.number last (omega (arith, past, are.0)) in
    let out_of : is_in portion game.number ≡ false =
    and_right (leb portion.first game.number) (is_up_to portion.last game.number)
    (ap (λ z. is_up_to z game.number) is ∙ out) in
    rw out_of (none_behind portion last (n + 1) games is (omega (arith, past)) are.1)

behind_last : (portion : Portion) (last : Option ℕ) (n number : ℕ) (games : List NumberedGame) → portion.last ≡ last
    → is_met last number ≡ true → number ≡ n + 1 → AreNumbered (n + 1) games → in_portion portion games ≡ []
behind_last portion None n number games is met at are = cc
behind_last portion (Some last) n number games is met at are =
    let past = leb-true last number met in
    none_behind portion last (n + 1) games is (omega (arith, at, past)) are

if_one : (b : Bool) (game : NumberedGame) (more : List NumberedGame)
    → cond b (game ∷ []) [] ++ more ≡ cond b (game ∷ more) more
if_one true game more = refl
if_one false game more = refl

up_to-is : (portion : Portion) (n : ℕ) (games : List NumberedGame) → AreNumbered n games
    → up_to portion games ≡ in_portion portion games
up_to-is portion n [] are = refl
up_to-is portion n (game ∷ games) are = elim (cases_Bool (is_met portion.last game.number)) [
  | inl met ↦ rw met (if_one (is_in portion game.number) game []
      ∙ ap (λ z. cond (is_in portion game.number) (game ∷ z) z)
      (sym (behind_last portion portion.last n game.number games refl met are.0 are.1)))
  | inr unmet ↦ rw unmet (if_one (is_in portion game.number) game (up_to portion games)
      ∙ ap (λ z. cond (is_in portion game.number) (game ∷ z) z) (up_to-is portion (n + 1) games are.1))
]

-- at first all games of the text are still looked at
pub chosen_of_all : (g : Geometry) (form : Form) (portion : Portion) (text : List ℕ)
    (Ahead : List NumberedGame → Type 0) (found : List NumberedGame)
    → ((all : List NumberedGame) → Ahead all → AreGamesIn g form text all)
    → AreLeft portion (MAX_PROBLEMS + 1) Ahead found → AreChosen g form portion text found
chosen_of_all g form portion text Ahead found reads (inl (none, is)) = absurd (omega (arith, none))
chosen_of_all g form portion text Ahead found reads (inr (all, ahead, is)) =
    let games = reads all ahead in
    let are = are_numbered g form text all games in
    let few = no_more 0 all are in (
      all,
      games,
      is ∙ (ap (up_to portion) (take_all (MAX_PROBLEMS + 1) all (omega (arith, few))) ∙ up_to-is portion 0 all are),
    )

-- ---- one game more

are_left : (portion : Portion) (left : ℕ) (Ahead : List NumberedGame → Type 0) (found : List NumberedGame)
    → ((all : List NumberedGame) × Ahead all) → AreLeft portion left Ahead found
    → (all : List NumberedGame) × Ahead all × (found ≡ up_to portion (take left all))
are_left portion left Ahead found some (inl (none, is)) =
    (some.0, some.1, is ∙ ap (λ n. up_to portion (take n some.0)) (sym none))
are_left portion left Ahead found some (inr those) = those

behind_one : (met : Bool) (portion : Portion) (left next : ℕ) (all : List NumberedGame)
    → next ≡ cond met 0 (suc left - 1) → up_to portion (take next all) ≡ cond met [] (up_to portion (take left all))
behind_one true portion left next all is = ap (λ n. up_to portion (take n all)) is
behind_one false portion left next all is =
    let same : next ≡ left = omega (arith, is) in ap (λ n. up_to portion (take n all)) same

pub less_left : (left next : ℕ) (met : Bool) → 0 < left → next ≡ cond met 0 (left - 1) → next < left
less_left left next true some is = omega (arith, some, is)
less_left left next false some is = omega (arith, some, is)

-- a game is looked at, and handed out if it is in the portion
pub one_looked_at : (portion : Portion) (left next : ℕ) (Old New : List NumberedGame → Type 0) (game : NumberedGame)
    (found : List NumberedGame) → 0 < left → next ≡ cond (is_met portion.last game.number) 0 (left - 1)
    → ((all : List NumberedGame) → New all → Old (game ∷ all)) → ((all : List NumberedGame) × New all)
    → AreLeft portion next New found
    → AreLeft portion left Old (cond (is_in portion game.number) (game ∷ []) [] ++ found)
one_looked_at portion zero next Old New game found some is before ahead are = absurd (omega (arith, some))
one_looked_at portion (suc left) next Old New game found some is before ahead are =
    let those = are_left portion next New found ahead are in
    inr (
      game ∷ those.0,
      before those.0 those.1,
      ap (λ z. cond (is_in portion game.number) (game ∷ []) [] ++ z)
          (those.2 ∙ behind_one (is_met portion.last game.number) portion left next those.0 is),
    )

-- ---- the next game of a text

game_comes : {B : Type 0} (g : Geometry) (rest read : List ℕ) (old new : games.Reader) (found : Option (Game B))
    → games.MayCome new rest → games.Gives g old new read (Ok found)
    → Comes (old.ahead g (read ++ rest)) (new.ahead g rest) found
game_comes g rest read old new None may gives = gives.1 rest may
game_comes g rest read old new (Some game) may gives = (λ all ahead. gives.0 rest all ahead, gives.1 rest may)

-- of a text of tags
pub next_game : {B S : Type 0} (g : Geometry) (supply : S → Supply) (old new : Games B S) (found : Option (Game B))
    → games.GivesNext g (supply (games.source_of old)) (supply (games.source_of new)) (reading_of old) (reading_of new)
    (Ok found) → ComesNext g supply (texts.Pdn old) (texts.Pdn new) found
next_game g supply old new found given = record {
  read = given.read;
  took = given.took;
  still = given.still;
  comes = λ rest may. game_comes g rest given.read (reading_of old) (reading_of new) found may given.gives;
}

first_ahead : {B : Type 0} (g : Geometry) (rest read : List ℕ) (old new : problems.Reader) (met : Bool)
    (problem : Problem B) → new.met_end ≡ met → (new.met_end ≡ true → rest ≡ [])
    → problems.Gives g old new read (Ok (Some problem))
    → old.ahead g true (read ++ rest) ≡ numbered problem ∷ new.ahead g true rest
first_ahead g rest read old new true problem is end gives =
    let none = end is in
    ap (old.ahead g true) (ap (λ z. read ++ z) none ∙ append-nil read)
    ∙ (subst (λ z. MatchBool z (old.ahead g true read ≡ numbered problem ∷ new.ahead g true [])
    ((over : Bool) (more : List ℕ) → old.ahead g over (read ++ more) ≡ numbered problem ∷ new.ahead g over more)) is
    gives
    ∙ ap (λ z. numbered problem ∷ new.ahead g true z) (sym none))
first_ahead g rest read old new false problem is end gives =
    subst (λ z. MatchBool z (old.ahead g true read ≡ numbered problem ∷ new.ahead g true [])
    ((over : Bool) (more : List ℕ) → old.ahead g over (read ++ more) ≡ numbered problem ∷ new.ahead g over more)) is
    gives true rest

abbrev with_text : Numbered → (tags movetext : List ℕ) → NumberedGame
with_text problem tags movetext =
    record { number = problem.number; said = record { found = problem.found; tags = tags; movetext = movetext } }

-- a problem with empty tags and an empty movetext
pub without_text : (problem : Numbered) (tags movetext : List ℕ) → tags ≡ [] → movetext ≡ []
    → with_text problem tags movetext ≡ as_game problem
without_text problem tags movetext none empty = rw (none, empty) refl

-- of a text of lines
pub next_line : {B S : Type 0} (g : Geometry) (supply : S → Supply) (old new : Problems B S) (problem : Problem B)
    (game : Game B) → numbered_game game ≡ as_game (numbered problem)
    → problems.NextGives g (supply (problems.source_of old)) (supply (problems.source_of new)) (reader_of old)
    (reader_of new) (Ok (Some problem)) → ((reader_of old).met_end ≡ true → (reader_of new).met_end ≡ true)
    → ComesNext g supply (texts.Fens old) (texts.Fens new) (Some game)
next_line g supply old new problem game same given stays = record {
  read = given.read;
  took = given.took;
  still = λ met. (given.still met, stays met);
  comes = λ rest may.
      let first = first_ahead g rest given.read (reader_of old) (reader_of new) (reader_of new).met_end problem refl
      may given.gives in (
        λ all ahead. ap (λ z. z ∷ all) same ∙ (ap (λ z. as_game (numbered problem) ∷ z) ahead
            ∙ sym (ap (map as_game) first)),
        (map as_game ((reader_of new).ahead g true rest), refl),
      );
}

none_ahead : (B : Type 0) (g : Geometry) (rest read : List ℕ) (old new : problems.Reader)
    → (new.met_end ≡ true → rest ≡ []) → problems.Gives {B = B} g old new read (Ok None)
    → old.ahead g true (read ++ rest) ≡ []
none_ahead B g rest read old new end (here, behind, inl met) =
    ap (old.ahead g true) (ap (λ z. read ++ z) (end met) ∙ append-nil read) ∙ here
none_ahead B g rest read old new end (here, behind, inr (past, all)) = all rest

pub no_line : {B S : Type 0} (g : Geometry) (supply : S → Supply) (old new : Problems B S)
    → problems.NextGives {B = B} g (supply (problems.source_of old)) (supply (problems.source_of new)) (reader_of old)
    (reader_of new) (Ok None) → ((reader_of old).met_end ≡ true → (reader_of new).met_end ≡ true)
    → ComesNext {B = B} g supply (texts.Fens old) (texts.Fens new) None
no_line {B} g supply old new given stays = record {
  read = given.read;
  took = given.took;
  still = λ met. (given.still met, stays met);
  comes = λ rest may. sym (ap (map as_game) (none_ahead B g rest given.read (reader_of old) (reader_of new) may
      given.gives));
}

-- ---- what is handed out

-- the same whole text, before a call that read these bytes
rest_before : {B S : Type 0} (supply : S → Supply) (old new : Text B S) (read : List ℕ)
    → Reads (supply (source_of old)) (supply (source_of new)) read
    → (met_end old ≡ true → (read ≡ []) × (met_end new ≡ true)) → (whole rest : List ℕ) → IsRest supply whole new rest
    → IsRest supply whole old (read ++ rest)
rest_before supply old new read took still whole rest is = record {
  joined = is.joined ∙ ap (λ z. z ++ rest) took.told ∙ append_assoc (supply (source_of old)).told read rest;
  may = λ met. let still = still met in ap (λ z. z ++ rest) still.0 ∙ is.may still.1;
}

-- reading went on from a text of tags, and the whole text stays possible
pub games_go_on : {B S : Type 0} (g : Geometry) (supply : S → Supply) (text : Text B S) (old new : Games B S)
    (result : Result (Option (Game B)) GameFault) → text ≡ texts.Pdn old
    → games.GivesNext g (supply (games.source_of old)) (supply (games.source_of new)) (reading_of old) (reading_of new)
    result
    → ((began : Supply) → EndIsKnown supply began (texts.Pdn old) → EndIsKnown supply began (texts.Pdn new))
    → GoesOn supply text (texts.Pdn new)
    × ((whole : List ℕ) → IsPossible supply (texts.Pdn new) whole → IsPossible supply text whole)
games_go_on g supply text old new result is given end = subst (λ z. GoesOn supply z (texts.Pdn new)
    × ((whole : List ℕ) → IsPossible supply (texts.Pdn new) whole → IsPossible supply z whole)) (sym is) (
      record { read = given.read; took = given.took; end = end },
      λ whole (rest, is). (
        given.read ++ rest,
        rest_before supply (texts.Pdn old) (texts.Pdn new) given.read given.took given.still whole rest is,
      ),
    )

-- the same of a text of lines
pub lines_go_on : {B S : Type 0} (g : Geometry) (supply : S → Supply) (text : Text B S) (old new : Problems B S)
    (result : Result (Option (Problem B)) ReadFault) → text ≡ texts.Fens old
    → problems.NextGives g (supply (problems.source_of old)) (supply (problems.source_of new)) (reader_of old)
    (reader_of new) result → ((reader_of old).met_end ≡ true → (reader_of new).met_end ≡ true)
    → ((began : Supply) → EndIsKnown supply began (texts.Fens old) → EndIsKnown supply began (texts.Fens new))
    → GoesOn supply text (texts.Fens new)
    × ((whole : List ℕ) → IsPossible supply (texts.Fens new) whole → IsPossible supply text whole)
lines_go_on g supply text old new result is given stays end = subst (λ z. GoesOn supply z (texts.Fens new)
    × ((whole : List ℕ) → IsPossible supply (texts.Fens new) whole → IsPossible supply z whole)) (sym is) (
      record { read = given.read; took = given.took; end = end },
      λ whole (rest, is). (
        given.read ++ rest,
        rest_before supply (texts.Fens old) (texts.Fens new) given.read given.took
            (λ met. (given.still met, stays met)) whole rest is,
      ),
    )

-- a game more is looked at
pub then_comes : {B S : Type 0} (g : Geometry) (supply : S → Supply) (portion : Portion) (left after : ℕ)
    (old new : Text B S) (game : Game B) (whole : List ℕ) (found : List NumberedGame)
    → ComesNext g supply old new (Some game) → 0 < left
    → after ≡ cond (is_met portion.last game.problem.number) 0 (left - 1)
    → AreComing g supply portion after new whole found
    → AreComing g supply portion left old whole
    (cond (is_in portion game.problem.number) (numbered_game game ∷ []) [] ++ found)
then_comes g supply portion left after old new game whole found next some is come =
    let rest = come.0 in
    let comes = next.comes rest come.1.may in (
      next.read ++ rest,
      rest_before supply old new next.read next.took next.still whole rest come.1,
      one_looked_at portion left after (AreAhead g old (next.read ++ rest)) (AreAhead g new rest) (numbered_game game)
          found some is comes.0 comes.1 come.2,
    )

-- no game comes
pub none_comes : {B S : Type 0} (g : Geometry) (supply : S → Supply) (portion : Portion) (left : ℕ)
    (old new : Text B S) (whole : List ℕ) → ComesNext {B = B} g supply old new None
    → ((rest : List ℕ) × IsRest supply whole new rest) → AreComing g supply portion left old whole []
none_comes g supply portion left old new whole next (rest, is) = (
  next.read ++ rest,
  rest_before supply old new next.read next.took next.still whole rest is,
  inr ([], next.comes rest is.may, sym (ap (up_to portion) (take_all left [] zero-le))),
)

-- none is looked at any more
pub none_left : {B S : Type 0} (g : Geometry) (supply : S → Supply) (portion : Portion) (left : ℕ) (text : Text B S)
    (whole : List ℕ) → left ≤ 0 → ((rest : List ℕ) × IsRest supply whole text rest)
    → AreComing g supply portion left text whole []
none_left g supply portion left text whole none (rest, is) = (rest, is, inl (omega (arith, none), refl))

-- behind a game there are those that are still to come
pub some_come : {B S : Type 0} (g : Geometry) (supply : S → Supply) (portion : Portion) (left : ℕ) (old new : Text B S)
    (game : Game B) (whole : List ℕ) → ComesNext g supply old new (Some game)
    → ((rest : List ℕ) × IsRest supply whole new rest)
    → (games : List NumberedGame) × AreComing g supply portion left new whole games
some_come g supply portion left old new game whole next (rest, is) =
    let all = (next.comes rest is.may).1 in
    (up_to portion (take left all.0), (rest, is, inr (all.0, all.1, refl)))

-- what a call for the next game answered
pub is_next : {B S : Type 0} (g : Geometry) (supply : S → Supply) (old new : Chosen B S) (found : Option (Game B))
    → HandsOut (AreToCome g supply old) (AreToCome g supply new) (MayBe supply new) (option_map numbered_game found)
    → IfSome found (λ _. HaveGames g supply new) → GoesOn supply old.text new.text
    → IsNext g supply old new (option_map numbered_game found)
is_next g supply old new None handed more on = (handed, tt, on)
is_next g supply old new (Some game) handed more on = (handed, more, on)

-- ---- reading goes on

pub GoesOn-refl : {B S : Type 0} (supply : S → Supply) (text : Text B S) → GoesOn supply text text
GoesOn-refl supply text = record { read = []; took = Reads-nil (supply (source_of text)); end = λ began known. known }

pub GoesOn-trans : {B S : Type 0} (supply : S → Supply) (old mid new : Text B S) → GoesOn supply old mid
    → GoesOn supply mid new → GoesOn supply old new
GoesOn-trans supply old mid new on more = record {
  read = on.read ++ more.read;
  took = Reads-trans (supply (source_of old)) (supply (source_of mid)) (supply (source_of new)) on.read more.read
      on.took
      more.took;
  end = λ began known. more.end began (on.end began known);
}

over_at : {B S : Type 0} (supply : S → Supply) (began : Supply) (text : Text B S) → EndIsKnown supply began text
    → met_end text ≡ true → MeetsEnd began (supply (source_of text))
over_at supply began (texts.Fens lines) known met = known.met met
over_at supply began (texts.Pdn sections) known met = known.met met

-- of each text that may follow the bytes read, or of those alone if the end was met
pub holds_ahead : {B S : Type 0} (supply : S → Supply) (P : List ℕ → Type 0) (old new : Chosen B S)
    (on : GoesOn supply old.text new.text) → EndIsKnown supply (supply (source_of old.text)) old.text
    → ((whole : List ℕ) → MayBe supply new whole
    → (bytes : List ℕ) × (whole ≡ (supply (source_of old.text)).told ++ bytes) × P bytes)
    → HoldsAhead P (supply (source_of old.text)) (supply (source_of new.text)) on.read
unfolding MayBe
holds_ahead supply P old new on known holds = elim (cases_Bool (met_end new.text)) [
  | inl met ↦ inr (
    over_at supply (supply (source_of old.text)) new.text (on.end (supply (source_of old.text)) known) met,
    subst P (append-nil on.read) (at [] (λ _. refl)),
  )
  | inr unmet ↦ inl (λ more. at more (λ met. absurd (true≢false (sym met ∙ unmet))))
]
  where
    at : (more : List ℕ) → (met_end new.text ≡ true → more ≡ []) → P (on.read ++ more)
    at more may =
        let whole = (supply (source_of new.text)).told ++ more in
        let found = holds whole (more, record { joined = refl; may = may }) in
        subst P (append_cancel_left (supply (source_of old.text)).told found.0 (on.read ++ more) (sym found.1
        ∙ (ap (λ z. z ++ more) on.took.told ∙ append_assoc (supply (source_of old.text)).told on.read more))) found.2
