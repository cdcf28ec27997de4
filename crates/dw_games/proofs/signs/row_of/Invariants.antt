use Rattle.std.proofs.Common.{◌≤◌, ◌-◌, ◌+◌, ℕ, length, take, drop}
use Rattle.dw_games.specs.Signs.{IsRow}
use Rattle.dw_games.specs.inner.Classes.{width_of}
use Rattle.dw_games.proofs.signs.row_of.Given as goal

abbrev pub invariant-signs : goal.invariant-signs
invariant-signs l = record {
  within : l.count ≤ length l.text;
  more : (n : ℕ) → IsRow (width_of l.signs) (take n (drop l.count l.text)) (drop n (drop l.count l.text))
      → IsRow (width_of l.signs) (take (l.count + n) l.text) (drop (l.count + n) l.text);
}

abbrev pub decreases-signs : goal.decreases-signs
decreases-signs l = length l.text - l.count
