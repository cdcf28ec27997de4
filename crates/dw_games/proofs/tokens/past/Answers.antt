use Rattle.std.proofs.Common.{sym, ◌∙◌}
use Rattle.dw_games.specs.inner.Classes.{test_of}
use Rattle.dw_games.proofs.TokenLemmas.{behind_run}
use Rattle.dw_games.proofs.tokens.past.Goals as goal

pub returns : goal.returns
returns c =
    c.split_at.ensures.back
    ∙ sym (behind_run (test_of c.args.class) c.args.text.now c.run_of.result c.run_of.ensures.run)
