-- The content of a slot, and bounds of which nothing is known.
use Rattle.std.proofs.Common.{◌≡◌, refl, sym}
use Rattle.std.specs.Prelude.{None, ℕ, List, Option, Some, not, cond}
use Rattle.dw_memo.specs.declared.bounds.Bounds.{Bounds}
use Rattle.dw_memo.specs.declared.fact.Fact.{Fact}
use Rattle.std.specs.Int.{from_bool}
use Rattle.dw_board.specs.inner.PlacementLemmas.{same}
use Rattle.dw_board.specs.declared.piece.Side.{Side}
use Rattle.dw_board.specs.declared.piece.Side.TheVariants.{White}
use Rattle.dw_board.specs.declared.piece.Piece.{Piece}
use Rattle.dw_board.specs.Placement.{Placement, empty}
use Rattle.dw_memo.specs.inner.Slots.{Place}

-- nothing is known
abbrev pub nothing : Bounds
nothing = record { fails = None; wins = None }

-- the bounds of a position, if the slot holds it
abbrev pub bounds_in : Place → Placement → Option Bounds
bounds_in None p = None
bounds_in (Some e) p = cond (same e.0 p) (Some e.1.bounds) None

-- the number of entries lost when a position comes into a slot: 1 if another one is there
abbrev pub lost : Place → Placement → ℕ
lost None p = 0
lost (Some e) p = from_bool (not (same e.0 p))

-- the pieces on a board, and the side to move
abbrev pub at_turn : List (Option Piece) → Side → Placement
at_turn cells turn = record { cells = cells; turn = turn }

-- the content of a slot that stores a position and a fact of it, if there is one
abbrev pub stands : Placement → Option Fact → Place
stands p None = None
stands p (Some f) = Some (p, f)

-- the position that a slot stores: the empty board if it is free
abbrev pub kept_position : Place → Placement
kept_position None = empty White
kept_position (Some e) = e.0

-- the fact that a slot stores
abbrev pub kept_fact : Place → Option Fact
kept_fact None = None
kept_fact (Some e) = Some e.1

pub position_back : (p : Placement) (f : Option Fact) → (f ≡ None → p ≡ empty White) → kept_position (stands p f) ≡ p
position_back p None h = sym (h refl)
position_back p (Some f) h = refl

pub fact_back : (p : Placement) (f : Option Fact) → kept_fact (stands p f) ≡ f
fact_back p None = refl
fact_back p (Some f) = refl
