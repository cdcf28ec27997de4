use Rattle.std.proofs.Common.{◌∙◌, ◌-◌, ◌∷◌, inl, inr, Option, Some, None, List, [], ap, refl, subst}
use Rattle.std.proofs.lemmas.Result.{err_from_is_err_and}
use Rattle.std.specs.Prelude.{ℕ, IfSome, option_map}
use Rattle.dw_notation.specs.Streams.{Appends}
use Rattle.dw_notation.specs.inner.StreamLemmas.{Appends-nil}
use Rattle.dw_commands.specs.declared.ending.Ending.TheVariants.{NoProblem}
use Rattle.dw_desk_commands.specs.inner.NextGame.{IsNext, as_list}
use Rattle.dw_desk_commands.specs.ProblemText.{IsPartOfFirst, IsReportOnOne}
use Rattle.dw_desk_commands.specs.inner.Choosing.{AreToCome, HandsOut, HaveGames, MayBe}
use Rattle.dw_desk_commands.specs.inner.Standing.{MayLeave, Stands, StandsOf}
use Rattle.dw_commands.specs.declared.ending.Ending.{Ending}
use Rattle.dw_desk_commands.proofs.ChosenLemmas.{is_next}
use Rattle.dw_desk_commands.proofs.ProblemLemmas.{err_so, is_err, ok_so}
use Rattle.dw_desk_commands.proofs.StandingLemmas.{left_after, left_so_far, no_part}
use Rattle.dw_games.specs.GameReading.{numbered_game}
use Rattle.dw_games.specs.Games.{NumberedGame}
use Rattle.dw_desk_commands.proofs.reporting.report_first.Goals as goal

pub returns-in-None-clause-report : goal.returns-in-None-clause-report
returns-in-None-clause-report g c =
    let geo = g.B.Board.geometry in
    let source = g.S.Source in (
      None,
      [],
      subst (λ z. IsNext geo source.supply c.args.chosen.now c.next.new.self
          (option_map numbered_game z)) c.in-None.is
          (is_next geo source.supply c.args.chosen.now c.next.new.self c.in_ok-game.field-0
          c.in_ok-game.ensures.given c.in_ok-game.ensures.more c.next.ensures.on),
      (ap NoProblem (c.first.ensures ∙ ap (λ z. z.first) c.in_ok-game.ensures.portion), refl),
      Appends-nil (g.K.Sink.accepted c.args.sink.now),
    )

pub returns-in-Some-clause-report : goal.returns-in-Some-clause-report
returns-in-Some-clause-report g c =
    let geo = g.B.Board.geometry in
    let source = g.S.Source in
    let before = g.K.Sink.accepted c.args.sink.now in
    let after = g.K.Sink.accepted c.report.new.sink in
    let game = numbered_game c.in-Some.game in
    let One = g.R.Report.says c.args.command.now
    (c.report.new.desk.solver.expanded - c.args.desk.now.solver.expanded) in
    let next : IsNext geo source.supply c.args.chosen.now c.next.new.self (Some game) =
    subst (λ z. IsNext geo source.supply c.args.chosen.now c.next.new.self
    (option_map numbered_game z)) c.in-Some.is
    (is_next geo source.supply c.args.chosen.now c.next.new.self c.in_ok-game.field-0
    c.in_ok-game.ensures.given c.in_ok-game.ensures.more c.next.ensures.on) in
    ok_so (λ ending. (text : List ℕ) × One game ending text × Appends before after text)
    (λ ending. (next : Option NumberedGame) × (text : List ℕ)
    × IsNext geo source.supply c.args.chosen.now c.next.new.self next
    × IsReportOnOne One c.args.chosen.now.portion.first (as_list next) ending text × Appends before after text)
    c.report.result
    (λ ending told. (Some game, told.0, next, told.1, told.2)) c.report.ensures.text

pub returns-in-Some-clause-told : goal.returns-in-Some-clause-told
returns-in-Some-clause-told g c = ok_so g.R.Report.may_answer _ c.report.result (λ ending told. inl told)
    c.report.ensures.told

pub returns-in-None-clause-told : goal.returns-in-None-clause-told
returns-in-None-clause-told g c =
    inr (ap NoProblem (c.first.ensures ∙ ap (λ z. z.first) c.in_ok-game.ensures.portion))

pub returns-in_err-game-clause-stands : goal.returns-in_err-game-clause-stands
returns-in_err-game-clause-stands g c =
    let supply = g.S.Source.supply in
    let taken = g.K.Sink.accepted in
    let Part = g.R.Report.leaves c.args.command.now in
    let Whole = λ (games : List NumberedGame) (text : List ℕ). (expanded : ℕ) × (ending : Ending g.row.E.Denot)
    × IsReportOnOne (g.R.Report.says c.args.command.now expanded) c.args.chosen.now.portion.first games ending text in
    let Old = AreToCome g.B.Board.geometry supply c.args.chosen.now in
    let may = MayBe supply c.next.new.self in
    let why = err_from_is_err_and c.from_residual.result c.from_residual.ensures.1 in
    is_err (StandsOf (IsPartOfFirst Part) Whole may Old (taken c.args.sink.now) (taken c.args.sink.now))
    c.from_residual.result why.0 c.in_err-game.field-0.0 why.1 why.2
    (left_so_far (IsPartOfFirst Part) Whole may Old (taken c.args.sink.now) (taken c.args.sink.now) []
    c.in_err-game.field-0.0 (Appends-nil (taken c.args.sink.now)) (λ whole is.
    let some = c.requires.games whole (c.next.ensures.possible whole is) in (some.0, some.1, no_part Part some.0)))

pub returns-in-Some-clause-stands : goal.returns-in-Some-clause-stands
returns-in-Some-clause-stands g c =
    let geo = g.B.Board.geometry in
    let supply = g.S.Source.supply in
    let taken = g.K.Sink.accepted in
    let says = g.R.Report.says c.args.command.now in
    let Part = g.R.Report.leaves c.args.command.now in
    let game = numbered_game c.in-Some.game in
    let Whole = λ (games : List NumberedGame) (text : List ℕ). (expanded : ℕ) × (ending : Ending g.row.E.Denot)
    × IsReportOnOne (says expanded) c.args.chosen.now.portion.first games ending text in
    let Piece = λ (text : List ℕ). (expanded : ℕ) × (ending : Ending g.row.E.Denot) × says expanded game ending text in
    let Old = AreToCome geo supply c.args.chosen.now in
    let New = AreToCome geo supply c.next.new.self in
    let may = MayBe supply c.next.new.self in
    let handed = subst (λ z. HandsOut Old New may (option_map numbered_game z)) c.in-Some.is
    c.in_ok-game.ensures.given in
    let some = subst (λ z. IfSome z (λ _. HaveGames geo supply c.next.new.self)) c.in-Some.is
    c.in_ok-game.ensures.more in
    err_so (Stands (MayLeave (Part game)) Piece (taken c.args.sink.now) (taken c.report.new.sink)) _ c.report.result
    (λ fault stands. left_after (IsPartOfFirst Part) Whole (MayLeave (Part game)) Piece may Old (taken c.args.sink.now)
    (taken c.args.sink.now) (taken c.report.new.sink) [] fault (Appends-nil (taken c.args.sink.now)) stands
    (λ whole is. let more = some whole is in (
      game ∷ more.0,
      handed whole more.0 more.1,
      λ text left. left,
      λ text one. inr one,
    ))) c.report.ensures.stands
