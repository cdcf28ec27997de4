-- The effect of searches on a memo, and the amount of their work.
use Rattle.std.specs.Prelude.{◌≡◌, ℕ, ◌+◌, ◌-◌, ◌^◌, ◌≤◌, ◌<◌, ◌⊎◌, List, length, filter, Result, Ok, Err}
use Rattle.std.proofs.Common.{zero, suc}
use Rattle.dw_board.specs.Geometry.{Geometry}
use Rattle.dw_board.specs.Placement.{Placement}
use Rattle.dw_memo.specs.Bounding.{decides}
use Rattle.dw_memo.specs.Content.{Entry, Content}
use Rattle.dw_board.specs.Lists.{Member}
use Rattle.dw_solve.specs.Facts.{KnownWin, KnownFail, IsClosed}

-- a search at one moment: its memo's content, the number of lost entries, the number of expanded positions
pub record Moment : Type 0 where
  pub content : Content
  pub lost : ℕ
  pub expanded : ℕ

abbrev pub moment : {M : Type 0} → (M → Content) → (M → ℕ) → M → ℕ → Moment
moment content lost memo expanded = record { content = content memo; lost = lost memo; expanded = expanded }

-- every answer of the memo stays an answer
pub record Stronger (old new : Content) : Type 0 where
  pub wins : (p : Placement) (n : ℕ) → KnownWin old p n → KnownWin new p n
  pub fails : (p : Placement) (n : ℕ) → KnownFail old p n → KnownFail new p n

-- the number of positions for which a content decides whether there is a win within n moves
abbrev pub decided_at : Content → ℕ → ℕ
decided_at c n = length (filter (λ (e : Entry). decides e.bounds n) c)

-- the number of pairs of a position and a number of moves from 1 to n that a content decides
abbrev pub decided_to : Content → ℕ → ℕ
decided_to c zero = 0
decided_to c (suc n) = decided_at c (suc n) + decided_to c n

-- at most as many positions have a new entry as were expanded
pub record FewNew (before after : Moment) : Type 0 where
  pub positions : List Placement
  pub few : before.expanded + length positions ≤ after.expanded
  pub all : (e : Entry) → Member e after.content → Member e before.content ⊎ Member e.position positions

-- the count of lost entries never falls and never passes the greatest 64-bit number
pub record LossIsCounted (before after : ℕ) : Type 0 where
  pub rises : before < 2 ^ 64 → before ≤ after
  pub within : before < 2 ^ 64 → after < 2 ^ 64

-- the memo lost nothing: its count is the same, and could still rise
abbrev pub NothingLost : Moment → Moment → Type 0
NothingLost before after = (before.lost ≡ after.lost) × (after.lost < 2 ^ 64 - 1)

-- The effect of searches for wins within n moves on a memo that loses nothing: known facts stay known; if each bound
-- followed from others, each still does; and each expansion added a decided pair of a position and a number of moves,
-- up to n or any greater one, except for a number of expansions that were cut off.
pub record Worked (g : Geometry) (n cut : ℕ) (before after : Moment) : Type 0 where
  pub stronger : Stronger before.content after.content
  pub closed : IsClosed g before.content → IsClosed g after.content
  pub growth : (k : ℕ) → n ≤ k → after.expanded + decided_to before.content k
      ≤ before.expanded + decided_to after.content k + cut

-- the effect of searches for wins within n moves on any memo
pub record Searched (g : Geometry) (n cut : ℕ) (before after : Moment) : Type 0 where
  pub few : FewNew before after
  pub counted : LossIsCounted before.lost after.lost
  pub worked : NothingLost before after → Worked g n cut before after

-- the number of expansions that a search for a win within n moves may cut off: n if it was stopped, and none if there
-- is an answer
abbrev pub cut_off : {A E : Type 0} → Result A E → ℕ → ℕ
cut_off (Ok answer) n = 0
cut_off (Err stop) n = n
