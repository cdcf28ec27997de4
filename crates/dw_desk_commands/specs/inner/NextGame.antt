-- The next of the chosen games.
use Rattle.std.specs.Prelude.{List, [], ◌∷◌, Option, Some, None, IfSome}
use Rattle.dw_board.specs.Geometry.{Geometry}
use Rattle.dw_desk_commands.specs.declared.chosen.Chosen.{Chosen}
use Rattle.dw_desk_commands.specs.inner.Choosing.{AreToCome, GoesOn, HandsOut, HaveGames, MayBe}
use Rattle.dw_games.specs.Games.{NumberedGame}
use Rattle.dw_notation.specs.Streams.{Supply}

-- it alone, or none
abbrev pub as_list : {X : Type 0} → Option X → List X
as_list None = []
as_list (Some x) = x ∷ []

-- It is handed out, or none is left, and reading went on. Whatever the whole text is, there are games that stay to
-- come.
abbrev pub IsNext : {B S : Type 0} → Geometry → (S → Supply) → (old new : Chosen B S) → Option NumberedGame → Type 0
IsNext g supply old new next =
    HandsOut (AreToCome g supply old) (AreToCome g supply new) (MayBe supply new) next
    × IfSome next (λ _. HaveGames g supply new)
    × GoesOn supply old.text new.text
