use Rattle.std.proofs.Common.{sym, ◌∙◌}
use Rattle.dw_memo.proofs.RecentLemmas.{not_contained}
use Rattle.dw_memo.proofs.lru_memo.has_place.Goals as goal

pub returns-clause-none : goal.returns-clause-none
returns-clause-none g c = λ _. not_contained c.args.position.now c.args.cache.now.entries
    (sym c.contains.ensures ∙ c.if-contains.false)
