-- One place for a position.
use Rattle.std.specs.Prelude.{[], ◌∷◌, Option, Some, None}
use Rattle.dw_board.specs.Placement.{Placement}
use Rattle.dw_memo.specs.declared.fact.Fact.{Fact}
use Rattle.dw_memo.specs.Content.{entry, Content}

-- a position with its fact, or nothing
abbrev pub Place : Type 0
Place = Option (Placement × Fact)

-- the entry of a place, if there is one
abbrev pub standing : Place → Content
standing None = []
standing (Some e) = entry e.0 e.1.bounds ∷ []
