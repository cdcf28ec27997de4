use Rattle.dw_games.proofs.TagRowLemmas.{spaces_before}
use Rattle.dw_games.proofs.tags.past_spaces.Goals as goal

pub returns-clause-tags : goal.returns-clause-tags
returns-clause-tags c = λ tags are.
    rw c.split_at.ensures.by_index.0 (spaces_before c.split_at.result.0.now c.split_at.result.1.now tags
    (rw c.split_at.ensures.front c.run_of.ensures.run.all) are)
