-- The value of a reader of games, and the effect of a call for the next game.
use Rattle.std.specs.Prelude.{◌≡◌, ◌⊎◌, ℕ, List, [], ◌∷◌, ◌++◌, Bool, true, false, Option, Some, None, Result, Ok, Err}
use Rattle.std.specs.Borrow.{GName}
use Rattle.dw_board.specs.Geometry.{Geometry}
use Rattle.dw_notation.specs.Buffering.{EndIsKnown}
use Rattle.dw_notation.specs.Streams.{Supply, Reads}
use Rattle.dw_games.specs.Games.{NumberedGame}
use Rattle.dw_games.specs.declared.games.Game.{Game}
use Rattle.dw_games.specs.declared.games.Games.{Games}
use Rattle.dw_games.specs.declared.games.GameFault.{GameFault}
use Rattle.dw_games.specs.declared.games.GameFault.TheVariants.{Failed, Memory}

-- the value of a game that was returned, for any type of its board
abbrev pub numbered_game : {B : Type 0} → Game B → NumberedGame
numbered_game game = record {
  number = game.problem.number;
  said = record { found = game.problem.found; tags = game.tags.items; movetext = game.movetext.items };
}

-- the name of the reference to the source that the reader holds
abbrev pub lender : {B S : Type 0} → Games B S → GName
lender games = games.source.ghost_name

-- the source as it stands now
abbrev pub source_of : {B S : Type 0} → Games B S → S
source_of games = games.source.now

-- The progress of a reader. Callers know of it only the clauses.
pub record Reader : Type 1 where
  -- the games not yet handed out, if these bytes are still to be read and the text ends with them
  pub ahead : Geometry → List ℕ → List NumberedGame → Type 0
  -- whether the source's end was met
  pub met_end : Bool
  -- whether all games are handed out
  pub is_over : Bool
  -- the fault that has stopped the reader
  pub fault : Option GameFault

-- these bytes may still come; none, if the end was met
abbrev pub MayCome : Reader → List ℕ → Type 0
MayCome reader bytes = reader.met_end ≡ true → bytes ≡ []

-- the effect of a call of `next` that read these bytes
abbrev pub Gives : {B : Type 0} → Geometry → Reader → Reader → List ℕ → Result (Option (Game B)) GameFault → Type 0
Gives g old new read (Ok (Some game)) =
    ((bytes : List ℕ) (games : List NumberedGame) → new.ahead g bytes games
    → old.ahead g (read ++ bytes) (numbered_game game ∷ games))
    × ((bytes : List ℕ) → MayCome new bytes → (games : List NumberedGame) × new.ahead g bytes games)
Gives g old new read (Ok None) =
    (new.is_over ≡ true) × ((bytes : List ℕ) → MayCome new bytes → old.ahead g (read ++ bytes) [])
Gives g old new read (Err fault) = new.fault ≡ Some fault

-- the effect of a call that read some bytes, and none after the end
pub record GivesNext {B : Type 0} (g : Geometry) (before after : Supply) (old new : Reader)
    (result : Result (Option (Game B)) GameFault) : Type 0 where
  pub read : List ℕ
  pub took : Reads before after read
  pub still : old.met_end ≡ true → (read ≡ []) × (new.met_end ≡ true)
  pub gives : Gives g old new read result

-- the end that a reader has met is the source's, met since a moment
abbrev pub EndIsTrue : (began now : Supply) → Reader → Type 0
EndIsTrue began now reader = EndIsKnown began now reader.met_end

-- the answer of a reader at its end, or after a fault: the same each time
abbrev pub StandsStill : {B : Type 0} → Reader → Result (Option (Game B)) GameFault → Type 0
StandsStill old result =
    (old.is_over ≡ true → result ≡ Ok None) × ((fault : GameFault) → old.fault ≡ Some fault → result ≡ Err fault)

-- a reader is over, or a fault has stopped it
abbrev pub Rests : Reader → Type 0
Rests reader = (reader.is_over ≡ true) ⊎ ((fault : GameFault) × (reader.fault ≡ Some fault))

-- the answer is that the source has failed
abbrev pub is_failure : {A : Type 0} → Result A GameFault → Bool
is_failure (Ok value) = false
is_failure (Err Failed) = true
is_failure (Err Memory) = false
