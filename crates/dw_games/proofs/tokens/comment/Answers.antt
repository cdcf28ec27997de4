use Rattle.std.proofs.Common.{arith}
use Rattle.dw_games.proofs.TokenLemmas.{comment_token, unclosed_token}
use Rattle.dw_games.proofs.tokens.comment.Goals as goal

pub returns-then-length-behind-clause-token : goal.returns-then-length-behind-clause-token
returns-then-length-behind-clause-token c = λ fresh.
    comment_token fresh c.args.behind.now c.run_of-length.result (omega arith) c.run_of-length.ensures.run

pub returns-else-length-behind-clause-token : goal.returns-else-length-behind-clause-token
returns-else-length-behind-clause-token c = λ fresh.
    unclosed_token fresh c.args.behind.now c.run_of-length.result (omega arith) c.run_of-length.ensures.run
