use Rattle.std.proofs.Common.{arith, sym, ◌∙◌}
use Rattle.dw_games.specs.Tokens.{is_dot}
use Rattle.dw_games.proofs.TokenLemmas.{number_token, written_token, closed_token, no_stop, none_run}
use Rattle.dw_games.proofs.tokens.number_or_written.Goals as goal

pub returns-then-dots-gt0-clause-token : goal.returns-then-dots-gt0-clause-token
returns-then-dots-gt0-clause-token c = λ fresh.
    number_token fresh c.args.first c.args.behind.now c.run_of-digits.result c.run_of-dots.result c.requires
    c.run_of-digits.ensures.run c.if-dots-gt0.true (rw c.split_at.ensures.back at c.run_of-dots.ensures.within)
    (rw c.split_at.ensures.back at c.run_of-dots.ensures.run)

pub returns-then-is_closed-clause-token : goal.returns-then-is_closed-clause-token
returns-then-is_closed-clause-token c = λ fresh.
    (closed_token fresh c.args.first c.args.behind.now c.run_of-digits.result c.requires c.run_of-digits.ensures.within
    c.run_of-digits.ensures.run (rw (← c.split_at.ensures.back) (sym c.is_closed.ensures ∙ c.if-is_closed.true))).1

pub returns-else-is_closed-clause-token : goal.returns-else-is_closed-clause-token
returns-else-is_closed-clause-token c = λ fresh.
    written_token fresh c.args.first c.args.behind.now c.run_of-digits.result c.row_of.result c.requires
    c.run_of-digits.ensures.within c.run_of-digits.ensures.run
    (rw (← c.split_at.ensures.back) (no_stop c.split_at.result.1.now (none_run is_dot c.split_at.result.1.now
    c.run_of-dots.result (omega (arith, c.if-dots-gt0.false)) c.run_of-dots.ensures.run)
    (sym c.is_closed.ensures ∙ c.if-is_closed.false))) c.row_of.ensures.within c.row_of.ensures.row
