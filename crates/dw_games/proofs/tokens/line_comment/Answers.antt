use Rattle.std.proofs.Common.{refl}
use Rattle.dw_games.specs.Tokens.{whole_line, unknown}
use Rattle.dw_games.proofs.tokens.line_comment.Goals as goal

pub returns-then-fresh-clause-token : goal.returns-then-fresh-clause-token
returns-then-fresh-clause-token c = rw c.if-fresh.true (whole_line c.run_of.ensures.run)

pub returns-else-fresh-clause-token : goal.returns-else-fresh-clause-token
returns-else-fresh-clause-token c = rw c.if-fresh.false (unknown refl refl)
