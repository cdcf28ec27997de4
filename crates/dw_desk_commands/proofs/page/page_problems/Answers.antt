use Rattle.std.proofs.Common.{◌≡◌, ◌⊎◌, ◌∙◌, ℕ, List, [], true, false, inl, ap, refl, subst}
use Rattle.std.specs.Prelude.{IfSome, option_map}
use Rattle.std.proofs.lemmas.Result.{err_from_is_err_and}
use Rattle.dw_games.specs.GameReading.{numbered_game}
use Rattle.dw_desk_commands.specs.inner.Choosing.{HandsOut, HaveGames, AreToCome, MayBe}
use Rattle.dw_notation.specs.Streams.{Appends}
use Rattle.dw_notation.specs.inner.StreamLemmas.{Appends-nil}
use Rattle.dw_desk_commands.specs.Page.{IsPage, IsPageOf, IsPageStop}
use Rattle.dw_desk_commands.specs.declared.desk.Counts.{Counts}
use Rattle.dw_desk_commands.specs.inner.Standing.{StandsOf}
use Rattle.dw_games.specs.Games.{NumberedGame}
use Rattle.dw_desk_commands.proofs.ProblemLemmas.{err_so, is_err, ok_so}
use Rattle.dw_desk_commands.proofs.StandingLemmas.{left_so_far}
use Rattle.dw_desk_commands.proofs.ChosenLemmas.{GoesOn-trans}
use Rattle.dw_desk_commands.proofs.PageLemmas.{all_written, left_at_end, left_between, left_of_head, left_of_none}
use Rattle.dw_desk_commands.proofs.PageLemmas.{left_within}
use Rattle.dw_desk_commands.proofs.PageLemmas.{none_yet, not_empty, page_of_none, then_one}
use Rattle.dw_desk_commands.proofs.page.page_problems.Goals as goal

-- none is counted yet
abbrev nothing : Counts
nothing = record { shown = 0; refused = 0 }

pub games-init : goal.games-init
games-init g c =
    let geo = g.B.Board.geometry in
    let source = g.S.Source in
    let taken = g.K.Sink.accepted in
    let query = c.args.query.now in
    let Old = AreToCome geo source.supply c.args.chosen.now in
    let New = AreToCome geo source.supply c.next.new.self in
    record {
      so_far = then_one geo query Old Old New (MayBe source.supply c.next.new.self) c.default.result
          c.with-counts.result (taken c.args.sink.now)
          (taken c.begin_page.new.sink) (taken c.write_part.new.sink) c.in_ok-later.later.items
          c.write_part.new.later.items (numbered_game c.in-Some.first) c.in_ok-is_refused.is_refused
          (none_yet geo query Old c.default.result (taken c.args.sink.now) (taken c.begin_page.new.sink)
          c.in_ok-later.later.items c.default.ensures.0 c.default.ensures.1 c.in_ok-later.ensures.head
          c.in_ok-later.ensures.later)
          (subst (λ z. HandsOut Old New (MayBe source.supply c.next.new.self) (option_map numbered_game z))
          c.in-Some.is c.in_ok-first.ensures.given)
          c.in_ok-is_refused.ensures.part c.with-counts.ensures.more;
      some = c.with-counts.ensures.some;
      games = subst (λ z. IfSome z (λ _. HaveGames geo source.supply c.next.new.self)) c.in-Some.is
          c.in_ok-first.ensures.more;
      on = c.next.ensures.on;
      works = c.in_ok-is_refused.ensures.works;
      lender = c.in_ok-first.ensures.lender;
      runs = c.in_ok-first.ensures.runs;
    }

pub games-preserved : goal.games-preserved
games-preserved g c =
    let geo = g.B.Board.geometry in
    let source = g.S.Source in
    let taken = g.K.Sink.accepted in
    let Old = AreToCome geo source.supply c.args.chosen.now in
    let Mid = AreToCome geo source.supply c.games.chosen in
    let New = AreToCome geo source.supply c.next-in-games.new.self in
    record {
      so_far = then_one geo c.args.query.now Old Mid New (MayBe source.supply c.next-in-games.new.self) c.games.counts
          c.with-counts-in-Some-2.result
          (taken c.args.sink.now) (taken c.games.sink) (taken c.write_part-in-Some-2.new.sink) c.games.later.items
          c.write_part-in-Some-2.new.later.items (numbered_game c.in-Some-2.game) c.in_ok-write_part.field-0
          c.games.invariant.so_far
          (subst (λ z. HandsOut Mid New (MayBe source.supply c.next-in-games.new.self) (option_map numbered_game z))
          c.in-Some-2.is c.in_ok-game.ensures.given)
          c.in_ok-write_part.ensures.part c.with-counts-in-Some-2.ensures.more;
      some = c.with-counts-in-Some-2.ensures.some;
      games = subst (λ z. IfSome z (λ _. HaveGames geo source.supply c.next-in-games.new.self)) c.in-Some-2.is
          c.in_ok-game.ensures.more;
      on = GoesOn-trans source.supply c.args.chosen.now.text c.games.chosen.text c.next-in-games.new.self.text
          c.games.invariant.on c.next-in-games.ensures.on;
      works = c.in_ok-write_part.ensures.works;
      lender = c.in_ok-game.ensures.lender ∙ c.games.invariant.lender;
      runs = c.in_ok-game.ensures.runs;
    }

pub returns-clause-report : goal.returns-clause-report
returns-clause-report g c =
    let geo = g.B.Board.geometry in
    let source = g.S.Source in
    let taken = g.K.Sink.accepted in
    let Old = AreToCome geo source.supply c.args.chosen.now in
    let Mid = AreToCome geo source.supply c.games.chosen in
    let New = AreToCome geo source.supply c.next-in-games.new.self in
    let all = all_written geo c.args.query.now Old Mid (MayBe source.supply c.next-in-games.new.self) c.games.counts
    (taken c.args.sink.now) (taken c.games.sink)
    (taken c.end_page.new.sink) c.games.later.items c.games.invariant.so_far
    (subst (λ z. HandsOut Mid New (MayBe source.supply c.next-in-games.new.self) (option_map numbered_game z))
    c.in_default-2.is c.in_ok-game.ensures.given)
    c.in_ok-end_page.ensures.text in (
      all.0,
      all.1,
      all.2,
      inl (
        all.3,
        λ none. absurd (not_empty geo c.args.query.now all.0 c.games.counts all.1 all.3
            c.games.invariant.some none),
      ),
      all.4,
    )

pub returns-clause-on : goal.returns-clause-on
returns-clause-on g c = GoesOn-trans g.S.Source.supply c.args.chosen.now.text c.games.chosen.text
    c.next-in-games.new.self.text c.games.invariant.on c.next-in-games.ensures.on

pub returns-in_default-clause-report : goal.returns-in_default-clause-report
returns-in_default-clause-report g c =
    let geo = g.B.Board.geometry in
    let source = g.S.Source in
    let taken = g.K.Sink.accepted in
    let query = c.args.query.now in
    let Old = AreToCome geo source.supply c.args.chosen.now in
    let New = AreToCome geo source.supply c.next.new.self in
    let none : (whole : List ℕ) → MayBe source.supply c.next.new.self whole → Old whole [] =
    subst (λ z. HandsOut Old New (MayBe source.supply c.next.new.self) (option_map numbered_game z)) c.in_default.is
    c.in_ok-first.ensures.given in
    ok_so (λ counts. (text : List ℕ) × ((IsPage geo query [] counts text × (c.must_exist.result ≡ false))
    ⊎ ((c.must_exist.result ≡ true) × (counts.shown ≡ 0) × (counts.refused ≡ 0) × (text ≡ [])))
    × Appends (taken c.args.sink.now) (taken c.empty_page.new.sink) text) _ c.empty_page.result
    (λ counts told. (
      [],
      told.0,
      none,
      page_of_none geo query c.args.chosen.now.portion c.must_exist.result counts told.0
          (c.must_exist.ensures ∙ ap (λ z. z.must_exist) c.in_ok-first.ensures.portion) told.1,
      told.2,
    ))
    c.empty_page.ensures.page

pub returns-in_err-first-clause-stands : goal.returns-in_err-first-clause-stands
returns-in_err-first-clause-stands g c =
    let supply = g.S.Source.supply in
    let start = g.K.Sink.accepted c.args.sink.now in
    let geo = g.B.Board.geometry in
    let query = c.args.query.now in
    let Whole = λ (games : List NumberedGame) (text : List ℕ). (counts : Counts)
    × IsPageOf geo query c.args.chosen.now.portion games counts text in
    let Old = AreToCome geo supply c.args.chosen.now in
    let may = MayBe supply c.next.new.self in
    let why = err_from_is_err_and c.from_residual.result c.from_residual.ensures.1 in
    is_err (StandsOf (IsPageStop geo query) Whole may Old start start) c.from_residual.result why.0
    c.in_err-first.field-0.0 why.1 why.2
    (left_so_far (IsPageStop geo query) Whole may Old start start [] c.in_err-first.field-0.0 (Appends-nil start)
    (λ whole is. let some = c.requires.games whole (c.next.ensures.possible whole is) in (some.0, some.1, inl refl)))

pub returns-in_default-clause-stands : goal.returns-in_default-clause-stands
returns-in_default-clause-stands g c =
    let geo = g.B.Board.geometry in
    let source = g.S.Source in
    let taken = g.K.Sink.accepted in
    let query = c.args.query.now in
    let Old = AreToCome geo source.supply c.args.chosen.now in
    let New = AreToCome geo source.supply c.next.new.self in
    let may = MayBe source.supply c.next.new.self in
    let none : (whole : List ℕ) → may whole → Old whole [] =
    subst (λ z. HandsOut Old New may (option_map numbered_game z)) c.in_default.is c.in_ok-first.ensures.given in
    err_so _ _ c.empty_page.result (λ fault stands. left_of_none geo query c.args.chosen.now.portion
    c.must_exist.result Old may (taken c.args.sink.now) (taken c.empty_page.new.sink) fault
    (c.must_exist.ensures ∙ ap (λ z. z.must_exist) c.in_ok-first.ensures.portion) none stands)
    c.empty_page.ensures.stands

pub returns-in_err-later-clause-stands : goal.returns-in_err-later-clause-stands
returns-in_err-later-clause-stands g c =
    let geo = g.B.Board.geometry in
    let supply = g.S.Source.supply in
    let taken = g.K.Sink.accepted in
    let start = taken c.args.sink.now in
    let query = c.args.query.now in
    let Whole = λ (games : List NumberedGame) (text : List ℕ). (counts : Counts)
    × IsPageOf geo query c.args.chosen.now.portion games counts text in
    let Old = AreToCome geo supply c.args.chosen.now in
    let New = AreToCome geo supply c.next.new.self in
    let may = MayBe supply c.next.new.self in
    let new = taken c.begin_page.new.sink in
    let why = err_from_is_err_and c.from_residual-in_err-later.result c.from_residual-in_err-later.ensures.1 in
    is_err (StandsOf (IsPageStop geo query) Whole may Old start new) c.from_residual-in_err-later.result why.0
    c.in_err-later.field-0.0 why.1 why.2
    (left_of_head geo query Whole Old New may start new (numbered_game c.in-Some.first) c.in_err-later.field-0.0
    (subst (λ z. HandsOut Old New may (option_map numbered_game z)) c.in-Some.is c.in_ok-first.ensures.given)
    (subst (λ z. IfSome z (λ _. HaveGames geo supply c.next.new.self)) c.in-Some.is c.in_ok-first.ensures.more)
    c.in_err-later.ensures.stands)

pub returns-in_err-is_refused-clause-stands : goal.returns-in_err-is_refused-clause-stands
returns-in_err-is_refused-clause-stands g c =
    let geo = g.B.Board.geometry in
    let supply = g.S.Source.supply in
    let taken = g.K.Sink.accepted in
    let start = taken c.args.sink.now in
    let query = c.args.query.now in
    let Whole = λ (games : List NumberedGame) (text : List ℕ). (counts : Counts)
    × IsPageOf geo query c.args.chosen.now.portion games counts text in
    let Old = AreToCome geo supply c.args.chosen.now in
    let New = AreToCome geo supply c.next.new.self in
    let may = MayBe supply c.next.new.self in
    let mid = taken c.begin_page.new.sink in
    let new = taken c.write_part.new.sink in
    let later = c.in_ok-later.later.items in
    let why = err_from_is_err_and c.from_residual-in_err-is_refused.result
    c.from_residual-in_err-is_refused.ensures.1 in
    is_err (StandsOf (IsPageStop geo query) Whole may Old start new) c.from_residual-in_err-is_refused.result why.0
    c.in_err-is_refused.field-0.0 why.1 why.2
    (left_within geo query Whole Old Old New may nothing start mid new later (numbered_game c.in-Some.first)
    c.in_err-is_refused.field-0.0
    (none_yet geo query Old nothing start mid later refl refl c.in_ok-later.ensures.head c.in_ok-later.ensures.later)
    (subst (λ z. HandsOut Old New may (option_map numbered_game z)) c.in-Some.is c.in_ok-first.ensures.given)
    (subst (λ z. IfSome z (λ _. HaveGames geo supply c.next.new.self)) c.in-Some.is c.in_ok-first.ensures.more)
    c.in_err-is_refused.ensures.stands)

pub returns-in_err-game-clause-on : goal.returns-in_err-game-clause-on
returns-in_err-game-clause-on g c = GoesOn-trans g.S.Source.supply c.args.chosen.now.text c.games.chosen.text
    c.next-in-games.new.self.text c.games.invariant.on c.next-in-games.ensures.on

pub returns-in_err-write_part-clause-on : goal.returns-in_err-write_part-clause-on
returns-in_err-write_part-clause-on g c = GoesOn-trans g.S.Source.supply c.args.chosen.now.text c.games.chosen.text
    c.next-in-games.new.self.text c.games.invariant.on c.next-in-games.ensures.on

pub returns-in_err-end_page-clause-on : goal.returns-in_err-end_page-clause-on
returns-in_err-end_page-clause-on g c = GoesOn-trans g.S.Source.supply c.args.chosen.now.text c.games.chosen.text
    c.next-in-games.new.self.text c.games.invariant.on c.next-in-games.ensures.on

pub returns-in_err-game-clause-stands : goal.returns-in_err-game-clause-stands
returns-in_err-game-clause-stands g c =
    let geo = g.B.Board.geometry in
    let supply = g.S.Source.supply in
    let taken = g.K.Sink.accepted in
    let start = taken c.args.sink.now in
    let query = c.args.query.now in
    let Whole = λ (games : List NumberedGame) (text : List ℕ). (counts : Counts)
    × IsPageOf geo query c.args.chosen.now.portion games counts text in
    let Old = AreToCome geo supply c.args.chosen.now in
    let may = MayBe supply c.next-in-games.new.self in
    let new = taken c.games.sink in
    let why = err_from_is_err_and c.from_residual-in_err-game.result c.from_residual-in_err-game.ensures.1 in
    is_err (StandsOf (IsPageStop geo query) Whole may Old start new) c.from_residual-in_err-game.result why.0
    c.in_err-game.field-0.0 why.1 why.2
    (left_between geo query Whole Old (AreToCome geo supply c.games.chosen) may c.games.counts start new
    c.games.later.items c.in_err-game.field-0.0 c.games.invariant.so_far
    (λ whole is. c.games.invariant.games whole (c.next-in-games.ensures.possible whole is)))

pub returns-in_err-write_part-clause-stands : goal.returns-in_err-write_part-clause-stands
returns-in_err-write_part-clause-stands g c =
    let geo = g.B.Board.geometry in
    let supply = g.S.Source.supply in
    let taken = g.K.Sink.accepted in
    let start = taken c.args.sink.now in
    let query = c.args.query.now in
    let Whole = λ (games : List NumberedGame) (text : List ℕ). (counts : Counts)
    × IsPageOf geo query c.args.chosen.now.portion games counts text in
    let Old = AreToCome geo supply c.args.chosen.now in
    let Mid = AreToCome geo supply c.games.chosen in
    let New = AreToCome geo supply c.next-in-games.new.self in
    let may = MayBe supply c.next-in-games.new.self in
    let mid = taken c.games.sink in
    let new = taken c.write_part-in-Some-2.new.sink in
    let why = err_from_is_err_and c.from_residual-in_err-write_part.result
    c.from_residual-in_err-write_part.ensures.1 in
    is_err (StandsOf (IsPageStop geo query) Whole may Old start new) c.from_residual-in_err-write_part.result why.0
    c.in_err-write_part.field-0.0 why.1 why.2
    (left_within geo query Whole Old Mid New may c.games.counts start mid new c.games.later.items
    (numbered_game c.in-Some-2.game) c.in_err-write_part.field-0.0 c.games.invariant.so_far
    (subst (λ z. HandsOut Mid New may (option_map numbered_game z)) c.in-Some-2.is c.in_ok-game.ensures.given)
    (subst (λ z. IfSome z (λ _. HaveGames geo supply c.next-in-games.new.self)) c.in-Some-2.is
    c.in_ok-game.ensures.more) c.in_err-write_part.ensures.stands)

pub returns-in_err-end_page-clause-stands : goal.returns-in_err-end_page-clause-stands
returns-in_err-end_page-clause-stands g c =
    let geo = g.B.Board.geometry in
    let supply = g.S.Source.supply in
    let taken = g.K.Sink.accepted in
    let start = taken c.args.sink.now in
    let query = c.args.query.now in
    let Whole = λ (games : List NumberedGame) (text : List ℕ). (counts : Counts)
    × IsPageOf geo query c.args.chosen.now.portion games counts text in
    let Old = AreToCome geo supply c.args.chosen.now in
    let Mid = AreToCome geo supply c.games.chosen in
    let New = AreToCome geo supply c.next-in-games.new.self in
    let may = MayBe supply c.next-in-games.new.self in
    let mid = taken c.games.sink in
    let new = taken c.end_page.new.sink in
    let why = err_from_is_err_and c.from_residual-in_err-end_page.result c.from_residual-in_err-end_page.ensures.1 in
    is_err (StandsOf (IsPageStop geo query) Whole may Old start new) c.from_residual-in_err-end_page.result why.0
    c.in_err-end_page.field-0.0 why.1 why.2
    (left_at_end geo query c.args.chosen.now.portion Old Mid may c.games.counts start mid new c.games.later.items
    c.in_err-end_page.field-0.0 c.games.invariant.so_far
    (subst (λ z. HandsOut Mid New may (option_map numbered_game z)) c.in_default-2.is c.in_ok-game.ensures.given)
    c.games.invariant.some c.in_err-end_page.ensures.stands)
