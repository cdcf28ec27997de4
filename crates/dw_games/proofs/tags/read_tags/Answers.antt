use Rattle.dw_games.proofs.TagRowLemmas.{tags_on, tags_over}
use Rattle.dw_games.proofs.tags.read_tags.Goals as goal

pub tags-preserved : goal.tags-preserved
tags-preserved c = record {
  stops = c.past_spaces-rest-in-Some.ensures.no_space;
  ahead = tags_on c.args.section.now c.tags.rest.now c.split_at.result.1.now c.past_spaces-rest-in-Some.result.now
      c.tags.tags.items c.push.new.self.items c.in-Some.tag c.tags.invariant.ahead
      (rw c.in-Some.is at c.in_ok-tag.ensures.some) c.split_at.ensures.back c.past_spaces-rest-in-Some.ensures.tags
      c.in_ok-push.ensures.items;
}

pub returns : goal.returns
returns c =
    tags_over c.args.section.now c.tags.rest.now c.tags.tags.items c.tags.invariant.ahead c.tags.invariant.stops
    (rw c.in_default.is at c.in_ok-tag.ensures.none)
