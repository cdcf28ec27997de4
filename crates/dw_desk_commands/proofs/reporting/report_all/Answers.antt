use Rattle.std.proofs.Common.{◌∙◌, refl, subst}
use Rattle.std.proofs.lemmas.Result.{err_from_is_err_and}
use Rattle.std.specs.Prelude.{ℕ, List, option_map, IfSome}
use Rattle.dw_games.specs.GameReading.{numbered_game}
use Rattle.dw_games.specs.Games.{NumberedGame}
use Rattle.dw_desk_commands.specs.ProblemText.{IsPartOfReport}
use Rattle.dw_desk_commands.specs.inner.Choosing.{HandsOut, HaveGames, AreToCome, MayBe}
use Rattle.dw_desk_commands.specs.inner.Standing.{StandsOf}
use Rattle.dw_desk_commands.proofs.ChosenLemmas.{GoesOn-refl, GoesOn-trans}
use Rattle.dw_desk_commands.proofs.ProblemLemmas.{is_err}
use Rattle.dw_desk_commands.proofs.ReportLemmas.{all_written, left_between, left_within, none_yet, then_one}
use Rattle.dw_desk_commands.proofs.reporting.report_all.Goals as goal

pub games-init : goal.games-init
games-init g c =
    let geo = g.B.Board.geometry in
    let source = g.S.Source in
    let One = g.R.Report.says c.args.command.now in
    record {
      so_far = none_yet One (AreToCome geo source.supply c.args.chosen.now) c.default-counts.result
          c.args.desk.now.solver.expanded (g.K.Sink.accepted c.args.sink.now) c.default-counts.ensures.0
          c.default-counts.ensures.1;
      on = GoesOn-refl source.supply c.args.chosen.now.text;
      works = c.requires.works;
      lender = refl;
      runs = c.requires.runs;
      some = c.requires.games;
    }

pub games-preserved : goal.games-preserved
games-preserved g c =
    let geo = g.B.Board.geometry in
    let source = g.S.Source in
    let taken = g.K.Sink.accepted in
    let One = g.R.Report.says c.args.command.now in
    let Old = AreToCome geo source.supply c.args.chosen.now in
    let Mid = AreToCome geo source.supply c.games.chosen in
    let New = AreToCome geo source.supply c.next.new.self in
    record {
      so_far = then_one One Old Mid New (MayBe source.supply c.next.new.self) c.games.counts c.with-counts.result
          c.args.desk.now.solver.expanded c.games.desk.solver.expanded c.report.new.desk.solver.expanded
          (taken c.args.sink.now) (taken c.games.sink) (taken c.report.new.sink) (numbered_game c.in-Some.game)
          c.in_ok-report.field-0 c.games.invariant.so_far
          (subst (λ z. HandsOut Mid New (MayBe source.supply c.next.new.self) (option_map numbered_game z))
          c.in-Some.is c.in_ok-game.ensures.given)
          (c.report.ensures.counts c.requires.counts) c.in_ok-report.ensures.text c.with-counts.ensures.more;
      on = GoesOn-trans source.supply c.args.chosen.now.text c.games.chosen.text c.next.new.self.text
          c.games.invariant.on c.next.ensures.on;
      works = c.in_ok-report.ensures.works;
      lender = c.in_ok-game.ensures.lender ∙ c.games.invariant.lender;
      runs = c.in_ok-game.ensures.runs;
      some = subst (λ z. IfSome z (λ _. HaveGames geo source.supply c.next.new.self)) c.in-Some.is
          c.in_ok-game.ensures.more;
    }

pub returns-clause-report : goal.returns-clause-report
returns-clause-report g c =
    let geo = g.B.Board.geometry in
    let source = g.S.Source in
    let taken = g.K.Sink.accepted in
    let One = g.R.Report.says c.args.command.now in
    let Old = AreToCome geo source.supply c.args.chosen.now in
    let Mid = AreToCome geo source.supply c.games.chosen in
    let New = AreToCome geo source.supply c.next.new.self in
    all_written One Old Mid (MayBe source.supply c.next.new.self) c.games.counts c.args.desk.now.solver.expanded
    c.games.desk.solver.expanded (taken c.args.sink.now) (taken c.games.sink) c.games.invariant.so_far
    (subst (λ z. HandsOut Mid New (MayBe source.supply c.next.new.self) (option_map numbered_game z)) c.in_default.is
    c.in_ok-game.ensures.given)

pub returns-clause-on : goal.returns-clause-on
returns-clause-on g c = GoesOn-trans g.S.Source.supply c.args.chosen.now.text c.games.chosen.text c.next.new.self.text
    c.games.invariant.on c.next.ensures.on

pub returns-in_err-game-clause-on : goal.returns-in_err-game-clause-on
returns-in_err-game-clause-on g c = GoesOn-trans g.S.Source.supply c.args.chosen.now.text c.games.chosen.text
    c.next.new.self.text c.games.invariant.on c.next.ensures.on

pub returns-in_err-report-clause-on : goal.returns-in_err-report-clause-on
returns-in_err-report-clause-on g c = GoesOn-trans g.S.Source.supply c.args.chosen.now.text c.games.chosen.text
    c.next.new.self.text c.games.invariant.on c.next.ensures.on

pub returns-in_err-game-clause-stands : goal.returns-in_err-game-clause-stands
returns-in_err-game-clause-stands g c =
    let geo = g.B.Board.geometry in
    let supply = g.S.Source.supply in
    let taken = g.K.Sink.accepted in
    let One = g.R.Report.says c.args.command.now in
    let Part = g.R.Report.leaves c.args.command.now in
    let None : List NumberedGame → List ℕ → Type 0 = λ (games : List NumberedGame) (text : List ℕ). ⊥ in
    let Old = AreToCome geo supply c.args.chosen.now in
    let may = MayBe supply c.next.new.self in
    let why = err_from_is_err_and c.from_residual.result c.from_residual.ensures.1 in
    is_err (StandsOf (IsPartOfReport One Part) None may Old (taken c.args.sink.now) (taken c.games.sink))
    c.from_residual.result why.0 c.in_err-game.field-0.0 why.1 why.2
    (left_between One Part None Old (AreToCome geo supply c.games.chosen) may c.games.counts
    c.args.desk.now.solver.expanded c.games.desk.solver.expanded (taken c.args.sink.now) (taken c.games.sink)
    c.in_err-game.field-0.0 c.games.invariant.so_far
    (λ whole is. c.games.invariant.some whole (c.next.ensures.possible whole is)))

pub returns-in_err-report-clause-stands : goal.returns-in_err-report-clause-stands
returns-in_err-report-clause-stands g c =
    let geo = g.B.Board.geometry in
    let supply = g.S.Source.supply in
    let taken = g.K.Sink.accepted in
    let One = g.R.Report.says c.args.command.now in
    let Part = g.R.Report.leaves c.args.command.now in
    let None : List NumberedGame → List ℕ → Type 0 = λ (games : List NumberedGame) (text : List ℕ). ⊥ in
    let Old = AreToCome geo supply c.args.chosen.now in
    let Mid = AreToCome geo supply c.games.chosen in
    let New = AreToCome geo supply c.next.new.self in
    let may = MayBe supply c.next.new.self in
    let why = err_from_is_err_and c.from_residual-in_err-report.result c.from_residual-in_err-report.ensures.1 in
    is_err (StandsOf (IsPartOfReport One Part) None may Old (taken c.args.sink.now) (taken c.report.new.sink))
    c.from_residual-in_err-report.result why.0 c.in_err-report.field-0.0 why.1 why.2
    (left_within One Part None Old Mid New may c.games.counts c.args.desk.now.solver.expanded
    c.games.desk.solver.expanded (taken c.args.sink.now) (taken c.games.sink) (taken c.report.new.sink)
    (numbered_game c.in-Some.game) c.in_err-report.field-0.0 c.games.invariant.so_far
    (subst (λ z. HandsOut Mid New may (option_map numbered_game z)) c.in-Some.is c.in_ok-game.ensures.given)
    (subst (λ z. IfSome z (λ _. HaveGames geo supply c.next.new.self)) c.in-Some.is c.in_ok-game.ensures.more)
    c.in_err-report.ensures.stands)
