use Rattle.std.proofs.Common.{◌≡◌, ◌+◌, ◌≤◌, ◌-◌, length, drop}
use Rattle.dw_board.specs.FenTokens.{tokens_from}
use Rattle.dw_board.proofs.fen.tokens.past_blanks.Given as goal

abbrev pub invariant-blanks : goal.invariant-blanks
invariant-blanks l = record {
  low : l.from ≤ l.at;
  high : l.at ≤ length l.text;
  same : tokens_from (l.at + 1) (drop l.at l.text) ≡ tokens_from (l.from + 1) (drop l.from l.text);
}

abbrev pub decreases-blanks : goal.decreases-blanks
decreases-blanks l = length l.text - l.at
