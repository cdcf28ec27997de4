use Rattle.std.proofs.Common.{◌∙◌, arith}
use Rattle.dw_solve.proofs.guide.capture_rank.Goals as goal

pub returns : goal.returns
returns g c = record {
  pieces = c.best_captures-best.result.pieces;
  ends = c.best_captures-best.result.ends;
  best = c.best_captures-best.ensures.pieces;
  are = c.best_captures-best.ensures.ends;
  sum = omega (arith, c.from.ensures ∙ c.count.ensures.value, c.from-2.ensures ∙ c.saturating_sub-more.ensures);
}
