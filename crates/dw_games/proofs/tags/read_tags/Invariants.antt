use Rattle.std.proofs.Common.{◌≡◌, ◌++◌, false, List, length, map}
use Rattle.dw_notation.specs.Tags.{is_space}
use Rattle.dw_games.specs.Tokens.{begins_with}
use Rattle.dw_games.specs.TagRows.{TagText, AreTags, tag_text}
use Rattle.dw_games.proofs.tags.read_tags.Given as goal

abbrev pub invariant-tags : goal.invariant-tags
invariant-tags l = record {
  stops : begins_with is_space l.rest ≡ false;
  ahead : (more : List TagText) → AreTags l.rest more → AreTags l.section (map tag_text l.tags.items ++ more);
}

abbrev pub decreases-tags : goal.decreases-tags
decreases-tags l = length l.rest
