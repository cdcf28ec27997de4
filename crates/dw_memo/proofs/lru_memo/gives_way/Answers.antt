use Rattle.dw_memo.specs.Recent.{content_of}
use Rattle.dw_memo.proofs.RecentLemmas.{same_then}
use Rattle.dw_memo.proofs.lru_memo.gives_way.Goals as goal

pub returns-clause-same : goal.returns-clause-same
returns-clause-same g c = same_then (content_of c.args.cache.now.entries) (content_of c.lives_on.new.cache.entries)
    (content_of c.lives_on-2.new.cache.entries) c.lives_on.ensures.same c.lives_on-2.ensures.same
