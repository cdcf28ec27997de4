use Rattle.std.proofs.Common.{◌∙◌, ap, refl, subst}
use Rattle.std.specs.Prelude.{IfSome, option_map}
use Rattle.std.proofs.lemmas.Result.{err_from_is_err_and}
use Rattle.dw_games.specs.GameReading.{numbered_game}
use Rattle.dw_desk_commands.specs.Same.{IsSamePart}
use Rattle.dw_desk_commands.specs.inner.Choosing.{AreToCome, HandsOut, HaveGames, MayBe}
use Rattle.dw_desk_commands.specs.inner.Standing.{StandsOf}
use Rattle.dw_desk_commands.proofs.ChosenLemmas.{GoesOn-refl, GoesOn-trans}
use Rattle.dw_desk_commands.proofs.ProblemLemmas.{is_err}
use Rattle.dw_desk_commands.proofs.SameLemmas.{all_written, left_at_end, left_between, left_within, none_yet, then_one}
use Rattle.dw_desk_commands.proofs.SameLemmas.{whole_of}
use Rattle.dw_desk_commands.proofs.same.same_problems.Goals as goal

pub games-init : goal.games-init
games-init g c =
    let geo = g.B.Board.geometry in
    let source = g.S.Source in
    record {
      so_far = none_yet geo c.args.query.now.json (AreToCome geo source.supply c.args.chosen.now)
          c.default-tally.result c.new-index.result (g.K.Sink.accepted c.args.sink.now) c.default-tally.ensures.0.0
          c.default-tally.ensures.0.1 c.default-tally.ensures.1.0 c.default-tally.ensures.1.1 c.new-index.ensures;
      on = GoesOn-refl source.supply c.args.chosen.now.text;
      works = c.requires.works;
      portion = refl;
      lender = refl;
      runs = c.requires.runs;
      some = c.requires.games;
    }

pub games-preserved : goal.games-preserved
games-preserved g c =
    let geo = g.B.Board.geometry in
    let source = g.S.Source in
    let taken = g.K.Sink.accepted in
    let Old = AreToCome geo source.supply c.args.chosen.now in
    let Mid = AreToCome geo source.supply c.games.chosen in
    let New = AreToCome geo source.supply c.next.new.self in
    let may = MayBe source.supply c.next.new.self in
    record {
      so_far = then_one geo c.args.query.now.json Old Mid New may c.games.tally c.with-tally.result c.games.index
          c.write_compared.new.index (taken c.args.sink.now) (taken c.games.sink) (taken c.write_compared.new.sink)
          (numbered_game c.in-Some.game) c.in_ok-write_compared.field-0 c.games.invariant.so_far
          (subst (λ z. HandsOut Mid New may (option_map numbered_game z)) c.in-Some.is c.in_ok-game.ensures.given)
          c.in_ok-write_compared.ensures.text c.in_ok-write_compared.ensures.added c.with-tally.ensures.counts
          c.with-tally.ensures.positions c.with-tally.ensures.repeats c.with-tally.ensures.some;
      on = GoesOn-trans source.supply c.args.chosen.now.text c.games.chosen.text c.next.new.self.text
          c.games.invariant.on c.next.ensures.on;
      works = c.in_ok-write_compared.ensures.works;
      portion = c.next.ensures.portion ∙ c.games.invariant.portion;
      lender = c.in_ok-game.ensures.lender ∙ c.games.invariant.lender;
      runs = c.in_ok-game.ensures.runs;
      some = subst (λ z. IfSome z (λ _. HaveGames geo source.supply c.next.new.self)) c.in-Some.is
          c.in_ok-game.ensures.more;
    }

pub returns-clause-on : goal.returns-clause-on
returns-clause-on g c = GoesOn-trans g.S.Source.supply c.args.chosen.now.text c.games.chosen.text c.next.new.self.text
    c.games.invariant.on c.next.ensures.on

pub returns-in_err-game-clause-on : goal.returns-in_err-game-clause-on
returns-in_err-game-clause-on g c = GoesOn-trans g.S.Source.supply c.args.chosen.now.text c.games.chosen.text
    c.next.new.self.text c.games.invariant.on c.next.ensures.on

pub returns-in_err-write_compared-clause-on : goal.returns-in_err-write_compared-clause-on
returns-in_err-write_compared-clause-on g c = GoesOn-trans g.S.Source.supply c.args.chosen.now.text
    c.games.chosen.text c.next.new.self.text c.games.invariant.on c.next.ensures.on

pub returns-in_err-write_last-clause-on : goal.returns-in_err-write_last-clause-on
returns-in_err-write_last-clause-on g c = GoesOn-trans g.S.Source.supply c.args.chosen.now.text c.games.chosen.text
    c.next.new.self.text c.games.invariant.on c.next.ensures.on

pub returns-clause-report : goal.returns-clause-report
returns-clause-report g c =
    let geo = g.B.Board.geometry in
    let source = g.S.Source in
    let taken = g.K.Sink.accepted in
    let Old = AreToCome geo source.supply c.args.chosen.now in
    let Mid = AreToCome geo source.supply c.games.chosen in
    let New = AreToCome geo source.supply c.next.new.self in
    let may = MayBe source.supply c.next.new.self in
    all_written geo c.args.query.now c.args.chosen.now.portion c.must_exist.result Old Mid may c.games.tally
    c.games.index (taken c.args.sink.now) (taken c.games.sink) (taken c.write_last.new.sink) c.games.invariant.so_far
    (subst (λ z. HandsOut Mid New may (option_map numbered_game z)) c.in_default.is c.in_ok-game.ensures.given)
    (c.must_exist.ensures ∙ ap (λ z. z.must_exist) (c.next.ensures.portion ∙ c.games.invariant.portion))
    c.in_ok-write_last.ensures.text

pub returns-in_err-game-clause-stands : goal.returns-in_err-game-clause-stands
returns-in_err-game-clause-stands g c =
    let geo = g.B.Board.geometry in
    let supply = g.S.Source.supply in
    let taken = g.K.Sink.accepted in
    let query = c.args.query.now in
    let Whole = whole_of geo query c.args.chosen.now.portion in
    let Old = AreToCome geo supply c.args.chosen.now in
    let may = MayBe supply c.next.new.self in
    let start = taken c.args.sink.now in
    let new = taken c.games.sink in
    let why = err_from_is_err_and c.from_residual.result c.from_residual.ensures.1 in
    is_err (StandsOf (IsSamePart geo query) Whole may Old start new) c.from_residual.result why.0
    c.in_err-game.field-0.0 why.1 why.2
    (left_between geo query Whole Old (AreToCome geo supply c.games.chosen) may c.games.tally c.games.index start new
    c.in_err-game.field-0.0 c.games.invariant.so_far
    (λ whole is. c.games.invariant.some whole (c.next.ensures.possible whole is)))

pub returns-in_err-write_compared-clause-stands : goal.returns-in_err-write_compared-clause-stands
returns-in_err-write_compared-clause-stands g c =
    let geo = g.B.Board.geometry in
    let supply = g.S.Source.supply in
    let taken = g.K.Sink.accepted in
    let query = c.args.query.now in
    let Whole = whole_of geo query c.args.chosen.now.portion in
    let Old = AreToCome geo supply c.args.chosen.now in
    let Mid = AreToCome geo supply c.games.chosen in
    let New = AreToCome geo supply c.next.new.self in
    let may = MayBe supply c.next.new.self in
    let start = taken c.args.sink.now in
    let new = taken c.write_compared.new.sink in
    let why = err_from_is_err_and c.from_residual-in_err-write_compared.result
    c.from_residual-in_err-write_compared.ensures.1 in
    is_err (StandsOf (IsSamePart geo query) Whole may Old start new) c.from_residual-in_err-write_compared.result why.0
    c.in_err-write_compared.field-0.0 why.1 why.2
    (left_within geo query Whole Old Mid New may c.games.tally c.games.index start (taken c.games.sink) new
    (numbered_game c.in-Some.game) c.in_err-write_compared.field-0.0 c.games.invariant.so_far
    (subst (λ z. HandsOut Mid New may (option_map numbered_game z)) c.in-Some.is c.in_ok-game.ensures.given)
    (subst (λ z. IfSome z (λ _. HaveGames geo supply c.next.new.self)) c.in-Some.is c.in_ok-game.ensures.more)
    c.in_err-write_compared.ensures.stands)

pub returns-in_err-write_last-clause-stands : goal.returns-in_err-write_last-clause-stands
returns-in_err-write_last-clause-stands g c =
    let geo = g.B.Board.geometry in
    let supply = g.S.Source.supply in
    let taken = g.K.Sink.accepted in
    let query = c.args.query.now in
    let portion = c.args.chosen.now.portion in
    let Old = AreToCome geo supply c.args.chosen.now in
    let Mid = AreToCome geo supply c.games.chosen in
    let New = AreToCome geo supply c.next.new.self in
    let may = MayBe supply c.next.new.self in
    let start = taken c.args.sink.now in
    let new = taken c.write_last.new.sink in
    let why = err_from_is_err_and c.from_residual-in_err-write_last.result
    c.from_residual-in_err-write_last.ensures.1 in
    is_err (StandsOf (IsSamePart geo query) (whole_of geo query portion) may Old start new)
    c.from_residual-in_err-write_last.result why.0 c.in_err-write_last.field-0.0 why.1 why.2
    (left_at_end geo query portion c.must_exist.result Old Mid may c.games.tally c.games.index start
    (taken c.games.sink) new c.in_err-write_last.field-0.0 c.games.invariant.so_far
    (subst (λ z. HandsOut Mid New may (option_map numbered_game z)) c.in_default.is c.in_ok-game.ensures.given)
    (c.must_exist.ensures ∙ ap (λ z. z.must_exist) (c.next.ensures.portion ∙ c.games.invariant.portion))
    c.in_err-write_last.ensures.stands)
