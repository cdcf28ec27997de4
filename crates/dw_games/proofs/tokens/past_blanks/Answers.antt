use Rattle.std.proofs.Common.{arith}
use Rattle.dw_games.proofs.TokenLemmas.{blank_next}
use Rattle.dw_games.proofs.tokens.past_blanks.Goals as goal

pub blanks-preserved : goal.blanks-preserved
blanks-preserved c = record {
  low = omega arith;
  high = omega arith;
  ahead =
      λ tokens rest are. c.blanks.invariant.ahead tokens rest
      (blank_next c.args.text.now c.blanks.at c.blanks.fresh c.ends_line-fresh.result tokens rest c.blanks-test.true
      c.if-is_between.ensures c.ends_line-fresh.ensures are);
}
