use Rattle.dw_moves.proofs.MoveKeyLemmas.{ordered, in_order, one_order, listing, listed_in_order, one_list}
use Rattle.dw_moves.proofs.laws.moves_in_order.Goals as goal

pub returns : goal.returns
returns c = record {
  some = λ g b p. (ordered g p, in_order g b p);
  only = one_order;
  listed =
      λ g b p. (listing g p, listed_in_order g b p);
  same = one_list;
}
