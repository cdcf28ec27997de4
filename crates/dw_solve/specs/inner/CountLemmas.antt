-- Counts of expanded positions, one after another.
use Rattle.std.proofs.Common.{ℕ, ◌≤◌, refl, ◌∙◌, arith}
use Rattle.dw_solve.specs.Searching.{IsCounted}

pub counted_none : (a l : ℕ) → a ≤ l → IsCounted a l a l
counted_none a l h = record { rises = omega arith; within = h; same = refl }

pub counted_then : (a l b m c k : ℕ) → IsCounted a l b m → IsCounted b m c k → IsCounted a l c k
counted_then a l b m c k one two = record {
  rises = omega (arith, one.rises, two.rises);
  within = omega (arith, two.within, one.same);
  same = two.same ∙ one.same;
}
