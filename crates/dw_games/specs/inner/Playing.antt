-- Bytes without a section.
use Rattle.std.specs.Prelude.{◌≡◌, ℕ, if◌then◌else◌, List, [], ◌∷◌, ◌++◌, drop, Bool, true, false, Result, Err}
use Rattle.std.specs.Prelude.{OnOk, IfOk}
use Rattle.dw_board.specs.Geometry.{Geometry}
use Rattle.dw_notation.specs.Tags.{open_bracket, close_brace}
use Rattle.dw_notation.specs.WholeTexts.{IsOpen}
use Rattle.dw_notation.specs.Between.{in_comment}
use Rattle.dw_notation.specs.declared.problems.section_finder.SectionFinder.{SectionFinder}
use Rattle.dw_notation.specs.declared.problems.ProblemFault.TheVariants.{UnclosedComment}
use Rattle.dw_games.specs.Games.{Said, said_with, HasGames}
use Rattle.dw_games.specs.GameReading.{is_failure}
use Rattle.dw_notation.specs.Buffering.{Input, Passes}
use Rattle.dw_notation.specs.Streams.{Supply}
use Rattle.dw_games.specs.inner.Keeping.{IsKept}
use Rattle.dw_games.specs.declared.games.GameFault.{GameFault}
use Rattle.dw_games.specs.declared.bounded_buf.BoundedBuf.{BoundedBuf}
use Rattle.dw_games.specs.declared.play.PlayEnd.{PlayEnd}
use Rattle.dw_games.specs.declared.play.PlayEnd.TheVariants.{Section, Text, Open}

-- the game of a comment that is left open
abbrev pub unclosed : Said
unclosed = said_with (Err UnclosedComment) [] []

-- a text that begins in a comment, its front, and its games
pub data InComment : Geometry → (text front : List ℕ) → List Said → Type 0 where
  closed : {g : Geometry} {more front : List ℕ} {games : List Said} (text : List ℕ) → IsOpen text
      → HasGames g more front games → InComment g (text ++ close_brace ∷ more) (text ++ close_brace ∷ front) games
  left_open : {g : Geometry} (text : List ℕ) → IsOpen text → InComment g text text (unclosed ∷ [])

-- a text that begins in a comment or outside
abbrev pub HasGamesFrom : Bool → Geometry → (text front : List ℕ) → List Said → Type 0
HasGamesFrom true g text front games = InComment g text front games
HasGamesFrom false g text front games = HasGames g text front games

-- the text after bytes without a section, and its games
abbrev pub Follows : Geometry → PlayEnd → List ℕ → List Said → Type 0
Follows g Section text games = HasGames g text [] games
Follows g Text text games = (text ≡ []) × (games ≡ [])
Follows g Open text games = (text ≡ []) × (games ≡ unclosed ∷ [])

-- how a text ends: within a comment, or outside
abbrev pub end_of_text : SectionFinder → PlayEnd
end_of_text finder = if in_comment finder then Open else Text

-- the state at each end of bytes without a section
abbrev pub EndsAt : {S : Type 0} → PlayEnd → Input S → Type 0
EndsAt Section input = input.unread ≡ open_bracket ∷ drop 1 input.unread
EndsAt Text input = (input.unread ≡ []) × (input.met_end ≡ true)
EndsAt Open input = (input.unread ≡ []) × (input.met_end ≡ true)

-- bytes without a section are passed and kept
pub record ReadsPlay {S : Type 0} (supply : S → Supply) (is_failed : S → Bool) (pulls : S → ℕ)
    (old new : Input S) (before after : BoundedBuf) (result : Result PlayEnd GameFault) : Type 0 where
  pub passed : List ℕ
  pub passes : Passes supply is_failed pulls old new passed (is_failure result)
  pub kept : OnOk result ((limit : ℕ) (text : List ℕ) → IsKept limit text before → IsKept limit (text ++ passed) after)
  pub said : IfOk result (λ end. (g : Geometry) (bytes : List ℕ) (games : List Said)
      → Follows g end (new.unread ++ bytes) games → HasGames g (passed ++ (new.unread ++ bytes)) passed games)
  pub ends : IfOk result (λ end. EndsAt end new)

-- so far bytes without a section were passed and kept
pub record PlaysOn {S : Type 0} (supply : S → Supply) (is_failed : S → Bool) (pulls : S → ℕ)
    (old now : Input S) (before kept : BoundedBuf) (is_comment : Bool) : Type 0 where
  pub passed : List ℕ
  pub passes : Passes supply is_failed pulls old now passed false
  pub keeps : (limit : ℕ) (text : List ℕ) → IsKept limit text before → IsKept limit (text ++ passed) kept
  pub said : (g : Geometry) (more front : List ℕ) (games : List Said) → HasGamesFrom is_comment g more front games
      → HasGames g (passed ++ more) (passed ++ front) games
