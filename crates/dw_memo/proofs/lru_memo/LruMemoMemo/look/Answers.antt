use Rattle.std.proofs.Common.{sym, ap, ◌∙◌, subst}
use Rattle.std.specs.Option.{option_map}
use Rattle.dw_board.specs.Placement.{Placement}
use Rattle.dw_memo.specs.declared.fact.Fact.{Fact}
use Rattle.lru.specs.LruCache.{LruCache}
use Rattle.dw_memo.specs.Content.{IsMap, SameEntries, IsFound}
use Rattle.dw_memo.specs.Recent.{content_of, IsRecent}
use Rattle.dw_memo.specs.Holding.{Holding}
use Rattle.dw_memo.proofs.RecentLemmas.{looked_up, promoted_recent, promoted_same}
use Rattle.dw_memo.proofs.lru_memo.LruMemoMemo.look.Goals as goal

pub invariant_of-self : goal.invariant_of-self
invariant_of-self g c =
    subst (λ (z : LruCache Placement Fact). IsRecent z.entries z.cap) (sym c.get.follows.holds-at-none)
    (promoted_recent c.args.position.now c.self.inside.cache.entries c.self.inside.cache.cap c.self.invariant)

pub returns-clause-found : goal.returns-clause-found
returns-clause-found g c =
    subst (λ (h : Holding). IsFound h.content c.args.position.now c.bounds_of.result) c.self.view_is
    (looked_up c.args.position.now c.self.inside.cache.entries c.bounds_of.result
    (c.bounds_of.ensures ∙ ap (option_map (λ (x : Fact). x.bounds)) (c.copied.ensures ∙ c.get.ensures.value)))

pub returns-clause-map_after : goal.returns-clause-map_after
returns-clause-map_after g c =
    subst (λ (z : LruCache Placement Fact). IsMap (content_of z.entries)) (sym c.get.follows.holds-at-none)
    (promoted_recent c.args.position.now c.self.inside.cache.entries c.self.inside.cache.cap c.self.invariant).map

pub returns-clause-same : goal.returns-clause-same
returns-clause-same g c =
    subst (λ (h : Holding). SameEntries h.content (content_of c.get.follows.lender-at-none.entries)) c.self.view_is
    (subst (λ (z : LruCache Placement Fact). SameEntries (content_of c.self.inside.cache.entries)
    (content_of z.entries)) (sym c.get.follows.holds-at-none)
    (promoted_same c.args.position.now c.self.inside.cache.entries c.self.invariant.map))
