use Rattle.std.proofs.Common.{◌≡◌, [], take}
use Rattle.dw_notation.specs.Tags.{values_named}
use Rattle.dw_games.specs.TagRows.{said_by}
use Rattle.dw_games.proofs.tags.value_named.Given as goal

abbrev pub invariant-tags : goal.invariant-tags
invariant-tags l = values_named l.name (said_by (take l.tag-index l.tags)) ≡ []
