-- How far the reading of the chosen problems has come.
use Rattle.std.specs.Prelude.{◌≡◌, ◌⊎◌, ◌++◌, ◌∷◌, if◌then◌else◌, ℕ, Bool, true, false, List, [], Option, Some, None}
use Rattle.std.specs.Prelude.{map, take, nat_le, ⊤}
use Rattle.std.specs.Borrow.{GName}
use Rattle.dw_board.specs.Geometry.{Geometry}
use Rattle.dw_desk_commands.specs.Chosen.{AreChosen, as_game, is_in}
use Rattle.dw_desk_commands.specs.declared.chosen.Chosen.{Chosen}
use Rattle.dw_desk_commands.specs.declared.chosen.Text.{Text}
use Rattle.dw_desk_commands.specs.declared.chosen.Text.TheVariants.{Fens, Pdn}
use Rattle.dw_arguments.specs.declared.portion.Portion.{Portion}
use Rattle.dw_games.specs.GameReading as games
use Rattle.dw_games.specs.GameReading.{numbered_game}
use Rattle.dw_games.specs.Games.{NumberedGame}
use Rattle.dw_games.specs.declared.games.Game.{Game}
use Rattle.dw_games.specs.inner.GameReaders.{reading_of}
use Rattle.dw_notation.specs.Reading as problems
use Rattle.dw_notation.specs.Streams.{Supply, Reads}
use Rattle.dw_notation.specs.declared.problems.Form.{Form}
use Rattle.dw_notation.specs.inner.Readers.{reader_of}

-- the name of the reference to the source that a text holds
abbrev pub lender : {B S : Type 0} → Text B S → GName
lender (Fens lines) = problems.lender lines
lender (Pdn sections) = games.lender sections

-- no fault has stopped the reader of a text
abbrev pub Runs : {B S : Type 0} → Text B S → Type 0
Runs (Fens lines) = ⊤
Runs (Pdn sections) = (reading_of sections).fault ≡ None

-- the source that a text is read from
abbrev pub source_of : {B S : Type 0} → Text B S → S
source_of (Fens lines) = problems.source_of lines
source_of (Pdn sections) = games.source_of sections

-- the games to come, if these bytes are still to be read and the text ends with them
abbrev pub AreAhead : {B S : Type 0} → Geometry → Text B S → (bytes : List ℕ) → List NumberedGame → Type 0
AreAhead g (Fens lines) bytes all = all ≡ map as_game ((reader_of lines).ahead g true bytes)
AreAhead g (Pdn sections) bytes all = (reading_of sections).ahead g bytes all

-- whether the end of a text was met
abbrev pub met_end : {B S : Type 0} → Text B S → Bool
met_end (Fens lines) = (reader_of lines).met_end
met_end (Pdn sections) = (reading_of sections).met_end

-- the end that was met is the source's, met since a moment
abbrev pub EndIsKnown : {B S : Type 0} → (S → Supply) → (began : Supply) → Text B S → Type 0
EndIsKnown supply began (Fens lines) =
    problems.EndIsTrue began (supply (problems.source_of lines)) (reader_of lines)
EndIsKnown supply began (Pdn sections) =
    games.EndIsTrue began (supply (games.source_of sections)) (reading_of sections)

-- reading went on
pub record GoesOn {B S : Type 0} (supply : S → Supply) (old new : Text B S) : Type 0 where
  pub read : List ℕ
  pub took : Reads (supply (source_of old)) (supply (source_of new)) read
  pub end : (began : Supply) → EndIsKnown supply began old → EndIsKnown supply began new

-- the next game comes with games after it, or none comes
abbrev pub Comes : {B : Type 0} → (Old New : List NumberedGame → Type 0) → Option (Game B) → Type 0
Comes Old New None = Old []
Comes Old New (Some game) =
    ((all : List NumberedGame) → New all → Old (numbered_game game ∷ all)) × ((all : List NumberedGame) × New all)

-- The next game of a text, whatever bytes may follow those read. After the end nothing is read.
pub record ComesNext {B S : Type 0} (g : Geometry) (supply : S → Supply) (old new : Text B S)
    (found : Option (Game B)) : Type 0 where
  pub read : List ℕ
  pub took : Reads (supply (source_of old)) (supply (source_of new)) read
  pub still : met_end old ≡ true → (read ≡ []) × (met_end new ≡ true)
  pub comes : (rest : List ℕ) → (met_end new ≡ true → rest ≡ [])
      → Comes (AreAhead g old (read ++ rest)) (AreAhead g new rest) found

-- the last number is met, or passed
abbrev pub is_met : Option ℕ → ℕ → Bool
is_met None number = false
is_met (Some last) number = nat_le last number

-- the games of a portion, up to its last number
abbrev pub up_to : Portion → List NumberedGame → List NumberedGame
up_to portion [] = []
up_to portion (game ∷ more) =
    (if is_in portion game.number then game ∷ [] else [])
    ++ (if is_met portion.last game.number then [] else up_to portion more)

-- the games of a portion among those ahead, of which this number are still looked at
abbrev pub AreLeft : Portion → (left : ℕ) → (Ahead : List NumberedGame → Type 0) → List NumberedGame → Type 0
AreLeft portion left Ahead found =
    ((left ≡ 0) × (found ≡ [])) ⊎ ((all : List NumberedGame) × Ahead all × (found ≡ up_to portion (take left all)))

-- the whole text is what was read of a source and these bytes, which may still come
pub record IsRest {B S : Type 0} (supply : S → Supply) (whole : List ℕ) (text : Text B S) (rest : List ℕ) : Type 0 where
  pub joined : whole ≡ (supply (source_of text)).told ++ rest
  pub may : met_end text ≡ true → rest ≡ []

-- this may be the whole text, by what was read of it
abbrev pub IsPossible : {B S : Type 0} → (S → Supply) → Text B S → (whole : List ℕ) → Type 0
IsPossible supply text whole = (rest : List ℕ) × IsRest supply whole text rest

-- the games of a portion that are still to come, if this is the whole text
abbrev pub AreComing : {B S : Type 0} → Geometry → (S → Supply) → Portion → (left : ℕ) → Text B S → (whole : List ℕ)
    → List NumberedGame → Type 0
AreComing g supply portion left text whole found =
    (rest : List ℕ) × IsRest supply whole text rest × AreLeft portion left (AreAhead g text rest) found

-- the chosen games that are still to come, if this is the whole text
-- Sealed: the clauses of commands name it, and say all that is to be known of it.
unfoldable pub AreToCome : {B S : Type 0} → Geometry → (S → Supply) → Chosen B S → (whole : List ℕ)
    → List NumberedGame → Type 0
AreToCome g supply chosen whole found = AreComing g supply chosen.portion chosen.left chosen.text whole found

-- this may be the whole text, by what was read of it
-- Sealed: the clauses of commands name it, and say all that is to be known of it.
unfoldable pub MayBe : {B S : Type 0} → (S → Supply) → Chosen B S → (whole : List ℕ) → Type 0
MayBe supply chosen whole = IsPossible supply chosen.text whole

-- whatever the whole text may be, it has games that are still to come
abbrev pub HaveGames : {B S : Type 0} → Geometry → (S → Supply) → Chosen B S → Type 0
HaveGames g supply chosen =
    (whole : List ℕ) → MayBe supply chosen whole → (games : List NumberedGame) × AreToCome g supply chosen whole games

-- nothing was read yet: the chosen games of a text are those of what follows the bytes read before
pub record IsFresh {B S : Type 0} (g : Geometry) (supply : S → Supply) (form : Form) (query : Portion)
    (chosen : Chosen B S) : Type 0 where
  pub all : (whole : List ℕ) (games : List NumberedGame) → AreToCome g supply chosen whole games
      → (bytes : List ℕ) × (whole ≡ (supply (source_of chosen.text)).told ++ bytes)
      × AreChosen g form query bytes games
  pub end : EndIsKnown supply (supply (source_of chosen.text)) chosen.text
  pub portion : chosen.portion ≡ query
  pub runs : Runs chosen.text
  pub some : HaveGames g supply chosen

-- of the games that are to come the first is handed out, and those after it stay to come; or none comes
abbrev pub HandsOut : (Old New : (whole : List ℕ) → List NumberedGame → Type 0) → (MayBe : (whole : List ℕ) → Type 0)
    → Option NumberedGame → Type 0
HandsOut Old New MayBe None = (whole : List ℕ) → MayBe whole → Old whole []
HandsOut Old New MayBe (Some game) =
    (whole : List ℕ) (more : List NumberedGame) → New whole more → Old whole (game ∷ more)
