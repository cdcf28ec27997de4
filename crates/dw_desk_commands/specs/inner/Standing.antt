-- What stands written when a report failed.
use Rattle.std.specs.Prelude.{◌≡◌, ◌⊎◌, ℕ, List, []}
use Rattle.dw_desk_commands.specs.declared.desk.DeskFault.{DeskFault}
use Rattle.dw_desk_commands.specs.declared.desk.DeskFault.TheVariants as because
use Rattle.dw_games.specs.Games.{NumberedGame}
use Rattle.dw_notation.specs.Streams.{Appends}
use Rattle.dw_notation.specs.Writes.{IsBeginning}

-- a text that is left after a fault; after a failed write a beginning of one, or of a whole text
abbrev pub IsAfter : (Leaves Whole : List ℕ → Type 0) → DeskFault → List ℕ → Type 0
IsAfter Leaves Whole because.Write text = (whole : List ℕ) × IsBeginning text whole × (Leaves whole ⊎ Whole whole)
IsAfter Leaves Whole (because.Stopped stop) text = Leaves text
IsAfter Leaves Whole because.Read text = Leaves text

-- nothing, or a part of a text
abbrev pub MayLeave : (Part : List ℕ → Type 0) → List ℕ → Type 0
MayLeave Part text = (text ≡ []) ⊎ Part text

-- such a text was written
pub record Stands (Leaves Whole : List ℕ → Type 0) (old new : List ℕ) (fault : DeskFault) : Type 0 where
  pub text : List ℕ
  pub wrote : Appends old new text
  pub after : IsAfter Leaves Whole fault text

-- a text was written that is left of the games to come, whatever the whole text of the source is
pub record StandsOf (Leaves Whole : List NumberedGame → List ℕ → Type 0) (MayBe : List ℕ → Type 0)
    (Coming : List ℕ → List NumberedGame → Type 0) (old new : List ℕ) (fault : DeskFault) : Type 0 where
  pub text : List ℕ
  pub wrote : Appends old new text
  pub after : (whole : List ℕ) → MayBe whole
      → (games : List NumberedGame) × Coming whole games × IsAfter (Leaves games) (Whole games) fault text
