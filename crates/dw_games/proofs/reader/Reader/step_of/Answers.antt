use Rattle.std.proofs.lemmas.Result.{err_from_is_err_and}
use Rattle.dw_games.specs.inner.Ahead.{token_value}
use Rattle.dw_games.proofs.TakenLemmas.{begun_low, behind_low, found_first, now_low, answer_low, found_behind}
use Rattle.dw_games.proofs.TakenLemmas.{alone_low}
use Rattle.dw_games.proofs.TakenLemmas.{alone_found, alone_fault}
use Rattle.dw_games.proofs.reader.Reader.step_of.Goals as goal

pub first_step-requires-clause-short : goal.first_step-requires-clause-short
first_step-requires-clause-short g c =
    let r = c.requires.reading in
    begun_low _ r.0 r.1 c.args.self.now r.2 (token_value c.args.token) c.in-Some.behind c.in-Some.is

pub first_step-requires-clause-room : goal.first_step-requires-clause-room
first_step-requires-clause-room g c =
    let r = c.requires.reading in
    behind_low _ r.0 r.1 c.args.self.now r.2 (token_value c.args.token) c.in-Some.behind c.in-Some.is

pub returns-in-Some : goal.returns-in-Some
returns-in-Some g c = λ p ts h.
    found_first _ p ts c.args.self.now h (token_value c.args.token) c.in-Some.behind c.first_step.result c.in-Some.is
    c.first_step.ensures

pub step_behind-requires-clause-short : goal.step_behind-requires-clause-short
step_behind-requires-clause-short g c =
    let r = c.requires.reading in
    now_low _ r.0 r.1 c.args.self.now r.2 (token_value c.args.token) c.in-Some-answer.answer c.in_default.is
    c.in-Some-answer.is

pub step_behind-requires-clause-room : goal.step_behind-requires-clause-room
step_behind-requires-clause-room g c =
    let r = c.requires.reading in
    answer_low _ r.0 r.1 c.args.self.now r.2 (token_value c.args.token) c.in-Some-answer.answer c.in_default.is
    c.in-Some-answer.is

pub returns-in-Some-answer : goal.returns-in-Some-answer
returns-in-Some-answer g c = λ p ts h.
    found_behind _ p ts c.args.self.now h (token_value c.args.token) c.in-Some-answer.answer c.step_behind.result
    c.in_default.is c.in-Some-answer.is c.step_behind.ensures

pub step_at-requires-clause-room : goal.step_at-requires-clause-room
step_at-requires-clause-room g c =
    let r = c.requires.reading in
    alone_low _ r.0 r.1 c.args.self.now r.2 (token_value c.args.token) c.in_default.is c.in_default-answer.is

pub returns-in_err-step_at : goal.returns-in_err-step_at
returns-in_err-step_at g c = λ p ts h.
    let e = err_from_is_err_and c.from_residual.result c.from_residual.ensures.1 in
    rw (e.1, e.2) (alone_fault _ p ts c.args.self.now h (token_value c.args.token) _ c.in_default.is
    c.in_default-answer.is (c.in_err-step_at.ensures p))

pub returns : goal.returns
returns g c = λ p ts h.
    alone_found _ p ts c.args.self.now h (token_value c.args.token) c.in_ok-step_at.field-0 c.in_default.is
    c.in_default-answer.is (c.in_ok-step_at.ensures p)
