use Rattle.std.proofs.Common.{subst}
use Rattle.dw_memo.specs.Holding.{Holding}
use Rattle.dw_memo.specs.Recent.{content_of}
use Rattle.dw_memo.specs.Noting.{IsNote}
use Rattle.dw_memo.proofs.NoteLemmas.{counted_on}
use Rattle.dw_memo.proofs.lru_memo.LruMemoMemo.put.Goals as goal

pub returns-clause-note : goal.returns-clause-note
returns-clause-note g c =
    subst (λ (h : Holding). IsNote h.content c.args.position.now c.args.bounds c.push-noted.result.0
    (content_of c.push-noted.new.cache.entries) h.dropped c.saturating_add-self-inside.result) c.self.view_is
    (counted_on (content_of c.self.inside.cache.entries) c.args.position.now c.args.bounds c.push-noted.result.0
    (content_of c.push-noted.new.cache.entries) c.push-noted.result.1 c.self.inside.dropped
    c.saturating_add-self-inside.result c.push-noted.ensures.note c.saturating_add-self-inside.ensures)
