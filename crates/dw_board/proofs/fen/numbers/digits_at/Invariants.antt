use Rattle.std.proofs.Common.{◌≤◌, ◌-◌, length, take}
use Rattle.dw_board.specs.FenTokens.{AreDigits}
use Rattle.dw_board.proofs.fen.numbers.digits_at.Given as goal

abbrev pub invariant-digits : goal.invariant-digits
invariant-digits l = record {
  within : l.count ≤ length l.text;
  digits : AreDigits (take l.count l.text);
}

abbrev pub decreases-digits : goal.decreases-digits
decreases-digits l = length l.text - l.count
