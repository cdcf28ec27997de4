use Rattle.std.proofs.lemmas.Result.{err_from_is_err_and}
use Rattle.dw_games.specs.inner.Ahead.{token_value}
use Rattle.dw_games.proofs.WholeLemmas.{read_more, ahead_all, ahead_end, stopped}
use Rattle.dw_games.proofs.movetext.reads_result.Goals as goal

pub returns-in_err-take : goal.returns-in_err-take
returns-in_err-take g c = λ p h.
    let on = c.tokens.invariant.gone_on p h in
    let e = err_from_is_err_and c.from_residual.result c.from_residual.ensures.1 in
    rw (e.1, e.2) (stopped _ p c.args.tokens.now on.0 (token_value c.in-Some.token) _ _
    (ahead_all c.args.tokens.now c.next.new.self _ (read_more c.args.tokens.now c.tokens.tokens c.next.new.self on.0
    (token_value c.in-Some.token) on.2 c.in-Some.ensures.token)) (c.in_err-take.ensures p on.0 on.1))

pub returns-then-branch : goal.returns-then-branch
returns-then-branch g c = λ p h.
    let on = c.tokens.invariant.gone_on p h in
    let taken = rw c.if-branch.true at (c.in_ok-take.ensures p on.0 on.1) in (
      on.0,
      token_value c.in-Some.token,
      taken.1,
      taken.2,
      taken.0,
      read_more c.args.tokens.now c.tokens.tokens c.next.new.self on.0 (token_value c.in-Some.token) on.2
          c.in-Some.ensures.token,
    )

pub tokens-preserved : goal.tokens-preserved
tokens-preserved g c = record {
  reading =
      let r = c.tokens.invariant.reading in (r.0, _, rw c.if-branch.false at (c.in_ok-take.ensures r.0 r.1 r.2));
  gone_on =
      λ p h. let on = c.tokens.invariant.gone_on p h in (
        _,
        rw c.if-branch.false at (c.in_ok-take.ensures p on.0 on.1),
        read_more c.args.tokens.now c.tokens.tokens c.next.new.self on.0 (token_value c.in-Some.token) on.2
            c.in-Some.ensures.token,
      );
}

pub returns : goal.returns
returns g c = λ p h.
    let on = c.tokens.invariant.gone_on p h in (
      on.0,
      on.1,
      ahead_end c.args.tokens.now c.tokens.tokens on.0 on.2
          c.in_default.ensures.token,
    )
