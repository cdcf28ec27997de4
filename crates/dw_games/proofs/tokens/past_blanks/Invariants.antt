use Rattle.std.proofs.Common.{◌+◌, ◌≤◌, ◌-◌, ℕ, List, length, drop}
use Rattle.dw_games.specs.Tokens.{Token, AreTokens}
use Rattle.dw_games.proofs.tokens.past_blanks.Given as goal

abbrev pub invariant-blanks : goal.invariant-blanks
invariant-blanks l = record {
  low : l.from ≤ l.at;
  high : l.at ≤ length l.text;
  ahead : (tokens : List Token) (rest : List ℕ) → AreTokens (l.at + 1) l.fresh (drop l.at l.text) tokens rest
      → AreTokens (l.from + 1) l.begins (drop l.from l.text) tokens rest;
}

abbrev pub decreases-blanks : goal.decreases-blanks
decreases-blanks l = length l.text - l.at
