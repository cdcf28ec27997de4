-- The effect of a note on a cache, which may lose entries.
use Rattle.std.specs.Prelude.{◌≡◌, ◌≢◌, ℕ, ◌+◌, ◌-◌, ◌^◌, ◌⊎◌, min, List, length}
use Rattle.dw_board.specs.Placement.{Placement}
use Rattle.dw_memo.specs.declared.bounds.Bounds.{Bounds}
use Rattle.dw_memo.specs.declared.memo.Noted.{Noted}
use Rattle.dw_memo.specs.declared.memo.Noted.TheVariants.{Kept}
use Rattle.dw_memo.specs.Content.{Entry, entry, Content, IsMap}
use Rattle.dw_board.specs.Lists.{Member, NoRepeat}

-- the given entry, or an old one of another position: the content of a cache that loses nothing, after a note
abbrev pub IsPutIn : Content → Placement → Bounds → Entry → Type 0
IsPutIn old p b e = (e ≡ entry p b) ⊎ (Member e old × (e.position ≢ p))

-- the entries that should be there and aren't: each stands once in the list, and no other does
pub record AreMissing (old : Content) (p : Placement) (b : Bounds) (new : Content) (missing : List Entry) : Type 0 where
  pub each_once : NoRepeat missing
  pub only : (e : Entry) → Member e missing → IsPutIn old p b e × (Member e new → ⊥)
  pub given : Member (entry p b) new ⊎ Member (entry p b) missing
  pub others : (e : Entry) → Member e old → (e.position ≡ p) ⊎ (Member e new ⊎ Member e missing)

-- A note of bounds for a position. The new content has only entries that it should have, and the new one if the answer
-- is `Kept`. The count grew by the number of missing entries, up to the greatest 64-bit number.
pub record IsNote (old : Content) (p : Placement) (b : Bounds) (answer : Noted) (new : Content)
    (before after : ℕ) : Type 0 where
  pub map_before : IsMap old
  pub map : IsMap new
  pub only : (e : Entry) → Member e new → IsPutIn old p b e
  pub kept : answer ≡ Kept → Member (entry p b) new
  pub missing : List Entry
  pub are_missing : AreMissing old p b new missing
  pub count : after ≡ min (before + length missing) (2 ^ 64 - 1)

-- the count of lost entries grew by one, up to the greatest 64-bit number
abbrev pub IsOneLost : ℕ → ℕ → Type 0
IsOneLost before after = after ≡ min (before + 1) (2 ^ 64 - 1)
