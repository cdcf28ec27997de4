use Rattle.std.proofs.Common.{◌≡◌, ◌∙◌, ◌-◌, ◌++◌, ℕ, List, [], inl, inr, refl, sym, ap, append-nil, subst}
use Rattle.std.proofs.lemmas.Result.{err_from_is_err_and}
use Rattle.dw_notation.specs.Streams.{Appends}
use Rattle.dw_notation.specs.Writes.{StopsShort}
use Rattle.dw_notation.specs.inner.StreamLemmas.{Appends-trans}
use Rattle.dw_games.specs.GameReading.{numbered_game}
use Rattle.dw_games.specs.Games.{problem_of}
use Rattle.dw_desk_commands.specs.ProblemText.{IsHeading, heading}
use Rattle.dw_desk_commands.specs.declared.desk.DeskFault.TheVariants as because
use Rattle.dw_desk_commands.specs.inner.Standing.{MayLeave, Stands}
use Rattle.dw_desk_commands.proofs.ProblemLemmas.{is_err}
use Rattle.dw_desk_commands.proofs.StandingLemmas.{short_stands, then_stands}
use Rattle.dw_desk_commands.proofs.reporting.InTextReport.report.Goals as goal

pub returns-clause-text : goal.returns-clause-text
returns-clause-text g c =
    let taken = g.K.Sink.accepted in
    let front = heading g.B.Board.geometry (g.C.MakesText.is_headed c.args.self.now.command.now)
    (problem_of (numbered_game c.args.game.now)) in (
      front ++ c.in_ok-text.text.items,
      subst (λ s. g.C.MakesText.says c.args.self.now.command.now (s.expanded - c.args.desk.now.solver.expanded)
          (numbered_game c.args.game.now) c.in_ok-text.answer (front ++ c.in_ok-text.text.items))
          (sym c.make_way.ensures) c.in_ok-text.ensures.text,
      Appends-trans (taken c.args.sink.now) (taken c.write_heading.new.sink) (taken c.write_all.new.sink) front
          c.in_ok-text.text.items
          (subst (λ b. Appends (taken c.args.sink.now) (taken c.write_heading.new.sink) (heading g.B.Board.geometry b
          (problem_of (numbered_game c.args.game.now)))) c.has_heading.ensures c.in_ok-write_heading.ensures.text)
          (subst (Appends (taken c.write_heading.new.sink) (taken c.write_all.new.sink)) c.as_slice.ensures.value
          c.in_ok-write_all.ensures.ok),
    )

pub returns-in_err-write_heading-clause-stands : goal.returns-in_err-write_heading-clause-stands
returns-in_err-write_heading-clause-stands g c =
    let taken = g.K.Sink.accepted in
    let command = c.args.self.now.command.now in
    let game = numbered_game c.args.game.now in
    let is_shown = g.C.MakesText.is_headed command in
    let Part = MayLeave (IsHeading g.B.Board.geometry is_shown game) in
    let Whole = λ (text : List ℕ). (expanded : ℕ) × (answer : g.row.A.Denot)
    × g.C.MakesText.says command expanded game answer text
    in
    let why = err_from_is_err_and c.from_residual.result c.from_residual.ensures.1 in
    is_err (Stands Part Whole (taken c.args.sink.now) (taken c.write_heading.new.sink)) c.from_residual.result why.0
    c.in_err-write_heading.field-0.0 why.1 why.2
    (short_stands Part Whole (taken c.args.sink.now) (taken c.write_heading.new.sink)
    (heading g.B.Board.geometry is_shown (problem_of game)) c.in_err-write_heading.field-0.0
    c.in_err-write_heading.ensures.write
    (subst (λ b. StopsShort (taken c.args.sink.now) (taken c.write_heading.new.sink) (heading g.B.Board.geometry b
    (problem_of game))) c.has_heading.ensures c.in_err-write_heading.ensures.short) (inl (inr refl)))

pub returns-in_err-text-clause-stands : goal.returns-in_err-text-clause-stands
returns-in_err-text-clause-stands g c =
    let taken = g.K.Sink.accepted in
    let command = c.args.self.now.command.now in
    let game = numbered_game c.args.game.now in
    let is_shown = g.C.MakesText.is_headed command in
    let Part = MayLeave (IsHeading g.B.Board.geometry is_shown game) in
    let Whole = λ (text : List ℕ). (expanded : ℕ) × (answer : g.row.A.Denot)
    × g.C.MakesText.says command expanded game answer text
    in
    let why = err_from_is_err_and c.from_residual-in_err-text.result c.from_residual-in_err-text.ensures.1 in
    is_err (Stands Part Whole (taken c.args.sink.now) (taken c.write_heading.new.sink))
    c.from_residual-in_err-text.result why.0
    (because.Stopped c.in_err-text.field-0.0) why.1 why.2
    (record {
      text = heading g.B.Board.geometry is_shown (problem_of game);
      wrote = subst (λ b. Appends (taken c.args.sink.now) (taken c.write_heading.new.sink) (heading g.B.Board.geometry b
          (problem_of game))) c.has_heading.ensures c.in_ok-write_heading.ensures.text;
      after = inr refl;
    })

pub returns-in_err-write_all-clause-stands : goal.returns-in_err-write_all-clause-stands
returns-in_err-write_all-clause-stands g c =
    let taken = g.K.Sink.accepted in
    let command = c.args.self.now.command.now in
    let game = numbered_game c.args.game.now in
    let is_shown = g.C.MakesText.is_headed command in
    let expanded = c.text_of.new.desk.solver.expanded - c.args.desk.now.solver.expanded in
    let front = heading g.B.Board.geometry is_shown (problem_of game) in
    let Part = MayLeave (IsHeading g.B.Board.geometry is_shown game) in
    let Whole = λ (text : List ℕ). (expanded : ℕ) × (answer : g.row.A.Denot)
    × g.C.MakesText.says command expanded game answer text
    in
    let why = err_from_is_err_and c.from_residual-in_err-write_all.result c.from_residual-in_err-write_all.ensures.1 in
    is_err (Stands Part Whole (taken c.args.sink.now) (taken c.write_all.new.sink))
    c.from_residual-in_err-write_all.result why.0
    because.Write why.1 why.2
    (then_stands Part Whole (λ text. text ≡ []) (λ text. text ≡ c.in_ok-text.text.items) (taken c.args.sink.now)
    (taken c.write_heading.new.sink) (taken c.write_all.new.sink) front because.Write
    (subst (λ b. Appends (taken c.args.sink.now) (taken c.write_heading.new.sink) (heading g.B.Board.geometry b
    (problem_of game))) c.has_heading.ensures c.in_ok-write_heading.ensures.text)
    (short_stands (λ text. text ≡ []) (λ text. text ≡ c.in_ok-text.text.items) (taken c.write_heading.new.sink)
    (taken c.write_all.new.sink) c.in_ok-text.text.items because.Write refl
    (subst (StopsShort (taken c.write_heading.new.sink) (taken c.write_all.new.sink)) c.as_slice.ensures.value
    c.in_err-write_all.ensures.err) (inr refl))
    (λ text none. inr (ap (λ z. front ++ z) none ∙ append-nil front))
    (λ text is. inr (
      expanded,
      c.in_ok-text.answer,
      subst (λ z. g.C.MakesText.says command expanded game c.in_ok-text.answer (front ++ z)) (sym is)
          c.in_ok-text.ensures.text,
    )))
