use Rattle.std.proofs.Common.{sym, ap, subst}
use Rattle.dw_board.specs.Placement.{Placement}
use Rattle.lru.specs.LruCache.{LruCache}
use Rattle.dw_memo.specs.declared.fact.Fact.{Fact}
use Rattle.dw_memo.specs.Content.{SameEntries}
use Rattle.dw_memo.specs.Recent.{content_of, IsRecent}
use Rattle.dw_memo.proofs.RecentLemmas.{recent_after, aged_same}
use Rattle.dw_memo.proofs.lru_memo.use_again.Goals as goal

pub returns-in-Ok-clause-recent : goal.returns-in-Ok-clause-recent
returns-in-Ok-clause-recent g c = recent_after c.args.cache.now c.push.new.self c.args.position c.older.result
    c.requires.recent c.in-Ok.ensures.entries

pub returns-in-Ok-clause-same : goal.returns-in-Ok-clause-same
returns-in-Ok-clause-same g c = aged_same c.args.cache.now c.push.new.self (c.args.position, c.args.fact)
    c.older.result c.requires.recent c.requires.last (ap (λ (x : Fact). x.bounds) c.older.ensures)
    c.in-Ok.ensures.entries

pub returns-in-Err-clause-recent : goal.returns-in-Err-clause-recent
returns-in-Err-clause-recent g c = subst (λ (z : LruCache Placement Fact). IsRecent z.entries z.cap)
    (sym c.in-Err.ensures.err) c.requires.recent

pub returns-in-Err-clause-same : goal.returns-in-Err-clause-same
returns-in-Err-clause-same g c = subst (λ (z : LruCache Placement Fact). SameEntries
    (content_of c.args.cache.now.entries) (content_of z.entries)) (sym c.in-Err.ensures.err) (λ e. ((λ m. m), (λ m. m)))
