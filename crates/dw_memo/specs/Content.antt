-- The content of a cache: a finite map from positions to bounds, as a list of entries.
use Rattle.std.specs.Prelude.{◌≡◌, ◌↔◌, ◌⊎◌, List, [], map, Option, Some, None}
use Rattle.dw_board.specs.Lists.{Member, NoRepeat}
use Rattle.dw_board.specs.Placement.{Placement}
use Rattle.dw_memo.specs.declared.bounds.Bounds.{Bounds}

-- an entry: a position with its side to move, and its bounds
pub record Entry : Type 0 where
  pub position : Placement
  pub bounds : Bounds

abbrev pub entry : Placement → Bounds → Entry
entry p b = record { position = p; bounds = b }

-- a list of entries
abbrev pub Content : Type 0
Content = List Entry

abbrev pub positions : Content → List Placement
positions c = map (λ e. e.position) c

-- each position has at most one entry
abbrev pub IsMap : Content → Type 0
IsMap c = NoRepeat (positions c)

-- the same entries, in any order
abbrev pub SameEntries : Content → Content → Type 0
SameEntries c d = (e : Entry) → Member e c ↔ Member e d

-- all entries may be given up, else they are the same
abbrev pub MayForget : Content → Content → Type 0
MayForget old new = SameEntries old new ⊎ (new ≡ [])

-- the bounds of a position, or nothing if it is missing
abbrev pub IsFound : Content → Placement → Option Bounds → Type 0
IsFound c p (Some b) = Member (entry p b) c
IsFound c p None = Member p (positions c) → ⊥
