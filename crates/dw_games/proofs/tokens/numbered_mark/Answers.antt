use Rattle.std.proofs.Common.{arith}
use Rattle.dw_games.specs.Tokens.{no_number}
use Rattle.dw_games.proofs.TokenLemmas.{mark_token}
use Rattle.dw_games.proofs.tokens.numbered_mark.Goals as goal

pub returns-then-digits-eq0-clause-token : goal.returns-then-digits-eq0-clause-token
returns-then-digits-eq0-clause-token c = λ fresh.
    no_number (rw c.if-digits-eq0.true at c.run_of-digits.ensures.run.ends)

pub returns-else-digits-eq0-clause-token : goal.returns-else-digits-eq0-clause-token
returns-else-digits-eq0-clause-token c = λ fresh.
    mark_token fresh c.args.behind.now c.run_of-digits.result (omega arith) c.run_of-digits.ensures.within
    c.run_of-digits.ensures.run
