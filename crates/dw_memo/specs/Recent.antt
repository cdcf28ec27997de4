-- A map of bounded size, the pair that was used last first.
use Rattle.std.specs.Prelude.{ℕ, ◌≤◌, ◌<◌, List, map, length}
use Rattle.dw_board.specs.Placement.{Placement}
use Rattle.dw_memo.specs.declared.fact.Fact.{Fact}
use Rattle.dw_memo.specs.Content.{entry, Content, IsMap}

-- the pairs as entries
abbrev pub content_of : List (Placement × Fact) → Content
content_of pairs = map (λ e. entry e.0 e.1.bounds) pairs

-- each position stands once, and there are no more pairs than there is room for
pub record IsRecent (pairs : List (Placement × Fact)) (room : ℕ) : Type 0 where
  pub map : IsMap (content_of pairs)
  pub fits : length pairs ≤ room
  pub some_room : 0 < room
