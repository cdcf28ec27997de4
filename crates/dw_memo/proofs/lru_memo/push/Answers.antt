use Rattle.std.proofs.Common.{sym, ap, ◌∙◌}
use Rattle.std.specs.Int.{from_bool}
use Rattle.dw_memo.specs.declared.fact.Fact.{Fact}
use Rattle.dw_memo.specs.declared.memo.Noted.TheVariants.{Kept, NotKept}
use Rattle.dw_memo.specs.Recent.{content_of}
use Rattle.dw_memo.proofs.RecentLemmas.{recent_after, note_some, note_none, note_refused, nothing_kept, noted_from}
use Rattle.dw_memo.proofs.lru_memo.push.Goals as goal

pub returns-then-not-has_place-clause-note : goal.returns-then-not-has_place-clause-note
returns-then-not-has_place-clause-note g c = nothing_kept (content_of c.args.cache.now.entries)
    (content_of c.has_place.new.cache.entries) c.args.position c.args.bounds c.requires.map
    c.has_place.ensures.recent.map c.has_place.ensures.same (c.has_place.ensures.none c.if-not-has_place.true)

pub returns-in-Ok-Some-clause-recent : goal.returns-in-Ok-Some-clause-recent
returns-in-Ok-Some-clause-recent g c = recent_after c.has_place.new.cache c.push.new.self c.args.position c.new.result
    c.has_place.ensures.recent c.in-Ok-Some.ensures.entries

pub returns-in-Ok-Some-clause-note : goal.returns-in-Ok-Some-clause-note
returns-in-Ok-Some-clause-note g c =
    noted_from (content_of c.args.cache.now.entries) (content_of c.has_place.new.cache.entries)
    (content_of c.push.new.self.entries) c.args.position c.args.bounds c.new.result.bounds Kept c.from.result
    c.requires.map c.has_place.ensures.same (ap (λ (x : Fact). x.bounds) c.new.ensures)
    (note_some c.has_place.new.cache c.push.new.self c.args.position c.new.result c.has_place.ensures.recent
    c.in-Ok-Some.ensures.entries (c.in-Ok-Some.other, c.in-Ok-Some.field-0-0-1) c.from.result
    (sym c.in-Ok-Some.ensures.old ∙ c.in-Ok-Some.field-0-is)
    (c.from.ensures ∙ ap from_bool c.ne.ensures))

pub returns-in-Ok-None-clause-recent : goal.returns-in-Ok-None-clause-recent
returns-in-Ok-None-clause-recent g c = recent_after c.has_place.new.cache c.push.new.self c.args.position c.new.result
    c.has_place.ensures.recent c.in-Ok-None.ensures.entries

pub returns-in-Ok-None-clause-note : goal.returns-in-Ok-None-clause-note
returns-in-Ok-None-clause-note g c =
    noted_from (content_of c.args.cache.now.entries) (content_of c.has_place.new.cache.entries)
    (content_of c.push.new.self.entries) c.args.position c.args.bounds c.new.result.bounds Kept 0
    c.requires.map c.has_place.ensures.same (ap (λ (x : Fact). x.bounds) c.new.ensures)
    (note_none c.has_place.new.cache c.push.new.self c.args.position c.new.result c.has_place.ensures.recent
    c.in-Ok-None.ensures.entries (sym c.in-Ok-None.ensures.old ∙ c.in-Ok-None.field-0-is))

pub returns-in-Err-clause-note : goal.returns-in-Err-clause-note
returns-in-Err-clause-note g c =
    noted_from (content_of c.args.cache.now.entries) (content_of c.has_place.new.cache.entries)
    (content_of c.push.new.self.entries) c.args.position c.args.bounds c.new.result.bounds NotKept 1
    c.requires.map c.has_place.ensures.same (ap (λ (x : Fact). x.bounds) c.new.ensures)
    (note_refused c.has_place.new.cache c.push.new.self c.args.position c.new.result c.has_place.ensures.recent
    c.in-Err.ensures.err c.in-Err.ensures.succeeds)
