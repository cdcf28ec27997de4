use Rattle.dw_notation.proofs.TextLawLemmas.{moves_have_texts}
use Rattle.dw_notation.proofs.laws.moves_have_texts.Goals as goal

pub returns : goal.returns
returns c = moves_have_texts c.moves_in_order.ensures (record {
  paths = c.path_tells.ensures;
  best = c.one_best.ensures;
  keys = c.moves_have_keys.ensures;
  take = c.legal_moves_take.ensures;
})
