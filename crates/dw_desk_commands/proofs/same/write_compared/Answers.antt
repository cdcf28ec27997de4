use Rattle.std.proofs.Common.{◌≡◌, ◌∙◌, ℕ, List, [], inr, subst, sym}
use Rattle.std.proofs.lemmas.Result.{err_from_is_err_and}
use Rattle.dw_games.specs.GameReading.{numbered_game}
use Rattle.dw_notation.specs.inner.StreamLemmas.{Appends-nil}
use Rattle.dw_desk_commands.specs.declared.same.Outcome.{Outcome}
use Rattle.dw_desk_commands.specs.inner.Repeating.{Compares}
use Rattle.dw_desk_commands.specs.inner.Standing.{Stands}
use Rattle.dw_desk_commands.proofs.ProblemLemmas.{is_err}
use Rattle.dw_desk_commands.proofs.StandingLemmas.{then_stands}
use Rattle.dw_desk_commands.proofs.same.write_compared.Goals as goal

pub returns-in_err-write_piece-clause-stands : goal.returns-in_err-write_piece-clause-stands
returns-in_err-write_piece-clause-stands g c =
    let start = g.K.Sink.accepted c.args.sink.now in
    let new = g.K.Sink.accepted c.write_piece.new.sink in
    let Nothing = λ (text : List ℕ). text ≡ [] in
    let One = λ (given : Outcome) (text : List ℕ). Compares g.B.Board.geometry c.args.query.now.json c.args.index.now
    (numbered_game c.args.game.now) given text in
    let Whole = λ (text : List ℕ). (given : Outcome) × One given text in
    let why = err_from_is_err_and c.from_residual-in_err-write_piece.result
    c.from_residual-in_err-write_piece.ensures.1 in
    is_err (Stands Nothing Whole start new) c.from_residual-in_err-write_piece.result why.0
    c.in_err-write_piece.field-0.0 why.1 why.2
    (then_stands Nothing Whole Nothing (λ text. text ≡ c.as_slice.result.now) start start new []
    c.in_err-write_piece.field-0.0 (Appends-nil start) c.in_err-write_piece.ensures.stands (λ text none. none)
    (λ text is. inr (
      c.in_ok-text.outcome,
      subst (One c.in_ok-text.outcome) (sym (is ∙ c.as_slice.ensures.value)) c.in_ok-text.ensures.text,
    )))
