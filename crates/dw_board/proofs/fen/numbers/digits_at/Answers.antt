use Rattle.std.proofs.Common.{arith, subst, sym, ◌∙◌}
use Rattle.std.proofs.lemmas.List.{take_more}
use Rattle.dw_board.specs.FenTokens.{AreDigits}
use Rattle.dw_board.proofs.FenTokenLemmas.{AreDigits-push}
use Rattle.dw_board.proofs.fen.numbers.digits_at.Goals as goal

pub digits-preserved : goal.digits-preserved
digits-preserved c = record {
  within = omega arith;
  digits = subst AreDigits (sym (take_more c.args.text.now c.digits.count 0 (omega arith)))
      (AreDigits-push _ _ c.digits.invariant.digits (sym c.is_ascii_digit.ensures.value ∙ c.if-is_ascii_digit.true));
}
