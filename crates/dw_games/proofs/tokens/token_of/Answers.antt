use Rattle.std.proofs.Common.{arith, sym, ◌∙◌, ◌<◌}
use Rattle.dw_games.specs.Tokens.{opens, closes, open_result}
use Rattle.dw_games.proofs.TokenLemmas.{dots_token, line_token, token_front, unknown_token, unmarked_front}
use Rattle.dw_games.proofs.tokens.token_of.Goals as goal

pub returns-in-59-clause-token : goal.returns-in-59-clause-token
returns-in-59-clause-token c =
    line_token c.args.fresh c.args.first c.args.behind.now c.run_of.result c.in-59.is c.requires.no_blank
    c.run_of.ensures.run

pub returns-in-37-clause-token : goal.returns-in-37-clause-token
returns-in-37-clause-token c = rw c.in-37.is c.line_comment.ensures.token

pub returns-in-46-clause-token : goal.returns-in-46-clause-token
returns-in-46-clause-token c =
    rw c.in-46.is (dots_token c.args.fresh c.args.behind.now c.run_of-in-46.result c.run_of-in-46.ensures.run)

pub returns-in-40-clause-token : goal.returns-in-40-clause-token
returns-in-40-clause-token c = rw c.in-40.is opens

pub returns-in-41-clause-token : goal.returns-in-41-clause-token
returns-in-41-clause-token c = rw c.in-41.is closes

pub returns-in-42-clause-token : goal.returns-in-42-clause-token
returns-in-42-clause-token c = rw c.in-42.is open_result

pub returns-in_default-clause-token : goal.returns-in_default-clause-token
returns-in_default-clause-token c = c.number_or_written.ensures.token c.args.fresh

pub returns-in-0-clause-token : goal.returns-in-0-clause-token
returns-in-0-clause-token c =
    unknown_token c.args.fresh c.args.first c.args.behind.now c.requires.no_blank (sym c.has.ensures ∙ c.if-has.false)
    (unmarked_front c.args.text.now c.args.first c.args.behind.now c.requires.text
    (c.mark_at.ensures.none c.in-0.is)) (omega arith) (omega arith) (omega arith) (omega arith) (omega arith)
    (omega arith) (omega arith) (omega arith)

pub returns-in_default-mark_at-clause-token : goal.returns-in_default-mark_at-clause-token
returns-in_default-mark_at-clause-token c =
    let some : 0 < c.mark_at.result = omega arith in
    token_front c.args.fresh c.args.text.now c.args.first c.args.behind.now c.mark_at.result c.requires.text some
    (c.mark_at.ensures.mark some c.args.fresh)
