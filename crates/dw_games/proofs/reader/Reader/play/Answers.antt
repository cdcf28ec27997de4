use Rattle.std.proofs.Common.{refl, ap, ◌∙◌, ◌++◌}
use Rattle.std.specs.Option.{is_some}
use Rattle.std.proofs.lemmas.Result.{err_from_is_err_and}
use Rattle.dw_games.specs.inner.Ahead.{token_value}
use Rattle.dw_games.proofs.TakenLemmas.{fault_found, can_note, taken_move}
use Rattle.dw_games.proofs.reader.Reader.play.Goals as goal

pub returns-in_err-found : goal.returns-in_err-found
returns-in_err-found g c = λ p ts h.
    let e = err_from_is_err_and c.from_residual.result c.from_residual.ensures.1 in
    rw (e.1, e.2) (fault_found _ p ts c.args.self.now h (token_value c.args.token) _ (c.in_err-found.ensures p ts h))

pub note_step-requires : goal.note_step-requires
note_step-requires g c =
    let r = c.requires.reading in
    can_note g.B.Board.geometry r.0 c.args.self.now.tree r.2.start (token_value c.args.token) c.in_ok-found.found
    (c.in_ok-found.ensures r.0 r.1 r.2)

pub returns : goal.returns
returns g c = λ p ts h.
    let found = c.in_ok-found.ensures p ts h in
    taken_move g.B.Board.geometry p ts c.args.self.now h (token_value c.args.token) _ c.in_ok-found.found
    c.in_ok-before.before c.in_ok-before.now c.is_some.result found
    (c.in_ok-before.ensures p (found.before ++ found.moves) h.start found.from)
    (λ after e. c.is_some.ensures ∙ ap is_some e) (λ e. c.is_some.ensures ∙ ap is_some e) refl refl
