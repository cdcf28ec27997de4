-- Two places side by side, and what they keep if both are taken.
use Rattle.std.specs.Prelude.{◌≡◌, ℕ, ◌+◌, ◌-◌, ◌/◌, ◌<◌, ◌≤◌, ◌⊎◌, ◌++◌, max, Option, Some, None}
use Rattle.dw_board.specs.Lists.{Member}
use Rattle.dw_board.specs.Placement.{Placement}
use Rattle.dw_memo.specs.declared.bounds.Bounds.{Bounds}
use Rattle.dw_memo.specs.declared.fact.Fact.{Fact}
use Rattle.dw_memo.specs.declared.memo.Noted.{Noted}
use Rattle.dw_memo.specs.declared.memo.Noted.TheVariants.{NotKept}
use Rattle.dw_memo.specs.declared.pair.Pair.{Pair}
use Rattle.dw_memo.specs.Content.{entry, Content}
use Rattle.dw_memo.specs.inner.Slots.{Place, standing}

-- the entries of the two places
abbrev pub pair_entries : {B : Type 0} → Pair B → Content
pair_entries pair = standing pair.first ++ standing pair.second

-- a number of moves, 0 if there is none
abbrev pub moves : Option ℕ → ℕ
moves None = 0
moves (Some n) = n

-- the depth of bounds: the greater of their two numbers of moves, or 0
abbrev pub depth : Bounds → ℕ
depth b = max (moves b.fails) (moves b.wins)

-- the value of a fact: the moves that its bounds decide, less one for each sixteen of age
abbrev pub fact_worth : Fact → ℕ
fact_worth f = depth f.bounds - f.age / 16

-- a place is worth one more than the fact there; a free one is worth 0
abbrev pub worth : Place → ℕ
worth None = 0
worth (Some e) = 1 + fact_worth e.1

-- Bounds of another position may take this place if it is worth no more than the other one, so if neither is free; and
-- if the fact there is worth one move at most, or the bounds tell of two or more.
pub record MayGo (place other : Place) (b : Bounds) : Type 0 where
  pub lesser : worth place ≤ worth other
  pub shallow : (worth place ≤ 2) ⊎ (2 ≤ depth b)

-- The losses of a pair to which bounds of a position come. An entry stays, or it is of that position, or it may go. The
-- bounds are kept, unless they tell of one move at most, and both places are worth more.
pub record IsChoice {B : Type 0} (old : Pair B) (p : Placement) (b : Bounds) (answer : Noted) (new : Pair B)
    : Type 0 where
  pub first : (e : Placement × Fact) → old.first ≡ Some e → Member (entry e.0 e.1.bounds) (pair_entries new)
      ⊎ ((e.0 ≡ p) ⊎ MayGo old.first old.second b)
  pub second : (e : Placement × Fact) → old.second ≡ Some e → Member (entry e.0 e.1.bounds) (pair_entries new)
      ⊎ ((e.0 ≡ p) ⊎ MayGo old.second old.first b)
  pub given : answer ≡ NotKept → (depth b ≤ 1) × (2 < worth old.first) × (2 < worth old.second)
