use Rattle.std.proofs.Common.{map, take}
use Rattle.dw_notation.specs.Streams.{Appends}
use Rattle.std.specs.List.{flat_map}
use Rattle.dw_games.specs.TagRows.{tag_text}
use Rattle.dw_desk_commands.specs.Solution.{own_line}
use Rattle.dw_desk_commands.proofs.solution.push_own_tags.Given as goal

abbrev pub invariant-tags : goal.invariant-tags
invariant-tags l = record {
  lines : Appends l.initial.text.items l.text.items (flat_map own_line (map tag_text (take l.tag-index l.tags)));
}
