use Rattle.std.proofs.Common.{◌≢◌, refl, sym, ◌∙◌}
use Rattle.std.proofs.lemmas.Bool.{true≢false}
use Rattle.std.proofs.lemmas.Result.{err_from_is_err_and}
use Rattle.dw_games.specs.Lines.{begins_variation}
use Rattle.dw_games.specs.inner.Ahead.{token_value}
use Rattle.dw_games.specs.declared.tokens.TokenKind.TheVariants.{Opens}
use Rattle.dw_games.proofs.WholeLemmas.{read_more, ahead_all, ahead_end}
use Rattle.dw_games.proofs.LineLemmas.{is_straight, line_stopped, none_more}
use Rattle.dw_games.proofs.line.reads_line.Goals as goal

pub returns-then-is_opening : goal.returns-then-is_opening
returns-then-is_opening g c = λ p h.
    let on = c.tokens.invariant.gone_on p h in
    rw c.fault.ensures (
      on.0,
      token_value c.in-Some.token,
      _,
      ahead_all c.args.tokens.now c.next.new.self _ (read_more c.args.tokens.now c.tokens.tokens c.next.new.self on.0
          (token_value c.in-Some.token) on.2 c.in-Some.ensures.token),
      begins_variation (is_straight _ p on.0 c.tokens.reader on.1) (c.is_opening.ensures.0 c.if-is_opening.true),
      refl,
    )

pub returns-in_err-take : goal.returns-in_err-take
returns-in_err-take g c = λ p h.
    let on = c.tokens.invariant.gone_on p h in
    let e = err_from_is_err_and c.from_residual.result c.from_residual.ensures.1 in
    rw (e.1, e.2) (line_stopped _ p c.args.tokens.now c.next.new.self c.take.new.self c.tokens.reader on.0 (token_value
    c.in-Some.token) _ _ on.1
    (ahead_all c.args.tokens.now c.next.new.self _ (read_more c.args.tokens.now c.tokens.tokens c.next.new.self on.0
    (token_value c.in-Some.token) on.2 c.in-Some.ensures.token)) (c.in_err-take.ensures p on.0 on.1.read))

pub returns-then-branch : goal.returns-then-branch
returns-then-branch g c = λ p h.
    let on = c.tokens.invariant.gone_on p h in
    let taken = rw c.if-branch.true at (c.in_ok-take.ensures p on.0 on.1.read) in (
      on.0,
      token_value c.in-Some.token,
      record { read = taken.1; none_opens = on.1.none_opens },
      taken.0,
      read_more c.args.tokens.now c.tokens.tokens c.next.new.self on.0 (token_value c.in-Some.token) on.2
          c.in-Some.ensures.token,
    )

pub tokens-preserved : goal.tokens-preserved
tokens-preserved g c =
    let other : c.in-Some.token.what ≢ Opens =
    λ opens. true≢false (sym (sym c.if-is_opening.false ∙ c.is_opening.ensures.1 opens)) in
    record {
      reading =
          let r = c.tokens.invariant.reading in (r.0, _, rw c.if-branch.false at (c.in_ok-take.ensures r.0 r.1 r.2));
      gone_on =
          λ p h. let on = c.tokens.invariant.gone_on p h in (
            _,
            record {
              read = rw c.if-branch.false at (c.in_ok-take.ensures p on.0 on.1.read);
              none_opens = none_more on.0 (token_value c.in-Some.token) on.1.none_opens other;
            },
            read_more c.args.tokens.now c.tokens.tokens c.next.new.self on.0 (token_value c.in-Some.token) on.2
                c.in-Some.ensures.token,
          );
    }

pub returns : goal.returns
returns g c = λ p h.
    let on = c.tokens.invariant.gone_on p h in
    (on.0, on.1, ahead_end c.args.tokens.now c.tokens.tokens on.0 on.2 c.in_default.ensures.token)
