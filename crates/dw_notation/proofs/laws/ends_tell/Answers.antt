use Rattle.dw_notation.proofs.EndsTellLemmas.{ends_tell}
use Rattle.dw_notation.proofs.laws.ends_tell.Goals as goal

pub returns : goal.returns
returns c = ends_tell c.moves_in_order.ensures (record {
  paths = c.path_tells.ensures;
  best = c.one_best.ensures;
  keys =
      c.moves_have_keys.ensures;
  take = c.legal_moves_take.ensures;
})
