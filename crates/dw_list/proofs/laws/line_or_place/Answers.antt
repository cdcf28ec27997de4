use Rattle.dw_list.proofs.PlaceLemmas.{line_or_place, place_both, place_only}
use Rattle.dw_list.proofs.laws.line_or_place.Goals as goal

pub returns : goal.returns
returns c = record {
  some = line_or_place c.moves_listed.ensures c.wins_are_decided.ensures;
  both = place_both;
  only = place_only;
}
