use Rattle.std.proofs.Common.{◌≡◌, ◌++◌, ℕ, List, [], codes, inr, refl, sym, subst}
use Rattle.std.proofs.lemmas.Result.{err_from_is_err_and}
use Rattle.dw_commands.specs.declared.ending.Ending.{Ending}
use Rattle.dw_commands.specs.declared.ending.Ending.TheVariants.{Done}
use Rattle.dw_games.specs.Lines.{IsWrittenLine}
use Rattle.dw_list.specs.Tokens.{token_of}
use Rattle.dw_notation.specs.Writes.{StopsShort}
use Rattle.dw_desk_commands.specs.Token.{IsTokenFor}
use Rattle.dw_desk_commands.specs.inner.Standing.{MayLeave, Stands}
use Rattle.dw_desk_commands.proofs.ProblemLemmas.{is_err}
use Rattle.dw_desk_commands.proofs.StandingLemmas.{short_stands}
use Rattle.dw_desk_commands.proofs.token.LineReportEnding.report.Goals as goal

pub returns-in_err-write_line-in-Ok-read_line-clause-stands :
    goal.returns-in_err-write_line-in-Ok-read_line-clause-stands
returns-in_err-write_line-in-Ok-read_line-clause-stands g c =
    let geo = g.B.Board.geometry in
    let start = g.K.Sink.accepted c.args.sink.now in
    let new = g.K.Sink.accepted c.write_line.new.sink in
    let line = c.args.self.now.text.now in
    let found = c.args.game.now.problem.found in
    let moves = c.in-Ok-read_line.moves.items in
    let text = token_of geo moves ++ codes "\n" in
    let Part = MayLeave (λ (text : List ℕ). text ≡ []) in
    let Whole = λ (text : List ℕ). (expanded : ℕ) × (ending : Ending g.row.E.Denot)
    × IsTokenFor geo line found ending text in
    let why = err_from_is_err_and c.from_residual.result c.from_residual.ensures.1 in
    is_err (Stands Part Whole start new) c.from_residual.result why.0
    c.in_err-write_line-in-Ok-read_line.field-0.0 why.1 why.2
    (short_stands Part Whole start new text c.in_err-write_line-in-Ok-read_line.field-0.0
    c.in_err-write_line-in-Ok-read_line.ensures.write
    (subst (λ z. StopsShort start new (token_of geo z ++ codes "\n")) c.as_slice.ensures.value
    c.in_err-write_line-in-Ok-read_line.ensures.short)
    (inr (
      0,
      Done,
      subst (λ z. IsTokenFor geo line z Done text) (sym c.in-Ok.is) (
        moves,
        subst (λ z. IsWrittenLine geo c.in-Ok.position z moves) c.as_bytes.ensures.value c.in-Ok-read_line.ensures,
        refl,
      ),
    )))
