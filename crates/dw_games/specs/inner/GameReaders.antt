-- The value of a reader of games for its callers, and the effects of its parts.
use Rattle.std.specs.Prelude.{◌≡◌, ℕ, List, [], ◌∷◌, ◌++◌, Bool, true, false, Option, Some, None, Result, Err, IfOk}
use Rattle.std.specs.Prelude.{MatchOption, nat_lt, if◌then◌else◌}
use Rattle.dw_board.specs.Geometry.{Geometry}
use Rattle.dw_notation.specs.declared.problems.TheConstants.{MAX_PROBLEMS}
use Rattle.dw_notation.specs.declared.problems.ProblemFault.TheVariants.{TooManyProblems}
use Rattle.dw_games.specs.Games.{Said, HasGames, NumberedGame, games_from}
use Rattle.dw_games.specs.GameReading.{Reader, numbered_game, is_failure}
use Rattle.dw_notation.specs.Numbering.{handed_out}
use Rattle.dw_notation.specs.TextLines.{Found}
use Rattle.dw_notation.specs.Buffering.{Input, input_of, Passes}
use Rattle.dw_notation.specs.Streams.{Supply}
use Rattle.dw_games.specs.inner.Playing.{unclosed}
use Rattle.dw_games.specs.declared.games.Game.{Game}
use Rattle.dw_games.specs.declared.games.Games.{Games}
use Rattle.dw_games.specs.declared.games.GameFault.{GameFault}
use Rattle.dw_games.specs.declared.games.Stage.{Stage}
use Rattle.dw_games.specs.declared.games.Stage.TheVariants.{Reading, Open, Over, Stopped}
use Rattle.dw_games.specs.declared.play.PlayEnd.{PlayEnd}
use Rattle.dw_games.specs.declared.play.PlayEnd.TheVariants.{Section, Text, Open as LeftOpen}

-- the source of a reader of games as it stands, with the bytes read of it
abbrev pub input_in : {B S : Type 0} → Games B S → Input S
input_in games = input_of games.source.now games.buffer

-- the text still to be passed has these games, by where the reader stands
abbrev pub Stands : Geometry → Stage → List ℕ → List Said → Type 0
Stands g Reading text said = (front : List ℕ) × HasGames g text front said
Stands g Open text said = said ≡ unclosed ∷ []
Stands g Over text said = said ≡ []
Stands g (Stopped fault) text said = said ≡ []

abbrev pub stage_behind : PlayEnd → Stage
stage_behind Section = Reading
stage_behind Text = Reading
stage_behind LeftOpen = Open

-- the games to come, if these bytes are still to be read and the text ends with them
pub record IsAhead {S : Type 0} (g : Geometry) (input : Input S) (stage : Stage) (handed : ℕ) (bytes : List ℕ)
    (games : List NumberedGame) : Type 0 where
  pub said : List Said
  pub over : input.met_end ≡ true → bytes ≡ []
  pub stands : Stands g stage (input.unread ++ bytes) said
  pub numbers : games ≡ games_from handed said

-- whether all games are handed out, by where the reader stands and by how many were
abbrev pub is_done : Stage → ℕ → Bool
is_done Reading handed = nat_lt MAX_PROBLEMS handed
is_done Open handed = nat_lt MAX_PROBLEMS handed
is_done Over handed = true
is_done (Stopped fault) handed = false

abbrev pub fault_of : Stage → Option GameFault
fault_of Reading = None
fault_of Open = None
fault_of Over = None
fault_of (Stopped fault) = Some fault

-- Sealed: the clauses of public calls name it, and say all that is to be known of it.
unfoldable pub reading_of : {B S : Type 0} → Games B S → Reader
reading_of games = record {
  ahead = λ g bytes numbered. IsAhead g (input_in games) games.stage (handed_out games.numbers) bytes numbered;
  met_end = (input_in games).met_end;
  is_over = is_done games.stage (handed_out games.numbers);
  fault = fault_of games.stage;
}

-- the problem of a section, or the refusal of one too many, if this many were handed out before
abbrev pub counted_found : ℕ → Found → Found
counted_found handed found = if nat_lt handed MAX_PROBLEMS then found else Err TooManyProblems

-- a game was read from a text, or the text has none; more may come of both
pub record ReadsGame {B S : Type 0} (g : Geometry) (supply : S → Supply) (is_failed : S → Bool)
    (pulls : S → ℕ) (old new : Games B S) (result : Result (Option (Game B)) GameFault) :
    Type 0 where
  pub passed : List ℕ
  pub passes : Passes supply is_failed pulls (input_in old) (input_in new) passed (is_failure result)
  pub gives : IfOk result (λ given. MatchOption given ((new.stage ≡ Over)
      × ((bytes : List ℕ) → ((input_in new).met_end ≡ true → bytes ≡ [])
      → IsAhead g (input_in old) Reading (handed_out old.numbers) (passes.read ++ bytes) []))
      (λ game. ((bytes : List ℕ) (games : List NumberedGame)
      → IsAhead g (input_in new) new.stage (handed_out new.numbers) bytes games
      → IsAhead g (input_in old) Reading (handed_out old.numbers) (passes.read ++ bytes) (numbered_game game ∷ games))
      × ((bytes : List ℕ) → ((input_in new).met_end ≡ true → bytes ≡ []) → (games : List NumberedGame)
      × IsAhead g (input_in new) new.stage (handed_out new.numbers) bytes games)))
