-- A section, read piece by piece.
use Rattle.std.specs.Prelude.{◌≡◌, ◌==◌, ◌<◌, ◌||◌, ◌⊎◌, not, ℕ, List, [], ◌∷◌, ◌++◌, length, Bool, true, false, Option}
use Rattle.std.specs.Prelude.{Result, Ok, Err, OnOk, IfOk, MatchOption}
use Rattle.std.specs.List.{list_all}
use Rattle.dw_board.specs.Geometry.{Geometry}
use Rattle.dw_notation.specs.TextLines.{Found}
use Rattle.dw_notation.specs.Tags.{open_bracket, close_bracket, is_space, Tag, IsGap, IsSection, SectionSays}
use Rattle.dw_notation.specs.WholeTexts.{SectionsSay}
use Rattle.dw_notation.specs.inner.Readers.{ahead_of}
use Rattle.dw_notation.specs.declared.problems.TheConstants.{MAX_SECTION}
use Rattle.dw_notation.specs.declared.problems.section_reader.SectionReader.{SectionReader}
use Rattle.dw_games.specs.Games.{Said, said_with, HasGames}
use Rattle.dw_games.specs.GameReading.{is_failure}
use Rattle.dw_notation.specs.Buffering.{Input, Passes}
use Rattle.dw_notation.specs.Streams.{Supply}
use Rattle.dw_games.specs.inner.Keeping.{IsKept, spaces_on, row_of}
use Rattle.dw_games.specs.declared.games.GameFault.{GameFault}
use Rattle.dw_games.specs.declared.bounded_buf.BoundedBuf.{BoundedBuf}

-- bytes that are a section and the gap after it, which this byte ends
pub record IsCut (g : Geometry) (seen : List ℕ) (byte : ℕ) (found : Found) : Type 0 where
  pub tags : List Tag
  pub some : Bool
  pub last : Bool
  pub text : List ℕ
  pub gap : List ℕ
  pub is : IsSection text tags some last
  pub spaces : IsGap last gap
  pub ends : not ((byte == open_bracket) || is_space byte) ≡ true
  pub says : SectionSays g (length text) some tags found
  pub joined : seen ≡ text ++ gap

-- bytes that are a section and the gap after it, where the text ends
pub record IsLast (g : Geometry) (seen : List ℕ) (found : Found) : Type 0 where
  pub tags : List Tag
  pub some : Bool
  pub last : Bool
  pub text : List ℕ
  pub gap : List ℕ
  pub is : IsSection text tags some last
  pub spaces : IsGap last gap ⊎ (gap ≡ [])
  pub says : SectionSays g (length text) some tags found
  pub joined : seen ≡ text ++ gap

-- bytes up to a bracket, few enough to be kept, and the spaces after it
pub record IsRow (seen : List ℕ) : Type 0 where
  pub front : List ℕ
  pub gap : List ℕ
  pub spaces : list_all is_space gap ≡ true
  pub few : length front < MAX_SECTION
  pub joined : seen ≡ front ++ close_bracket ∷ gap

-- a section that is not refused ends with a bracket
abbrev pub EndsWell : Found → List ℕ → Type 0
EndsWell (Ok position) seen = IsRow seen
EndsWell (Err fault) seen = Unit {0}

-- so far the bytes of a section were passed, and they and the spaces at their end are kept
pub record ReadsOn {B S : Type 0} (g : Geometry) (supply : S → Supply) (is_failed : S → Bool)
    (pulls : S → ℕ) (old now : Input S) (begun row before kept : BoundedBuf) (reader : SectionReader B) : Type 0 where
  pub passed : List ℕ
  pub passes : Passes supply is_failed pulls old now passed false
  pub rows : (limit : ℕ) → IsKept limit [] begun → IsKept limit passed row
  pub keeps : (limit : ℕ) → IsKept limit [] before → IsKept limit (spaces_on [] passed) kept
  pub said : (over : Bool) (more : List ℕ) → SectionsSay g over (passed ++ more) (ahead_of reader g over more)
  pub unsaid : ahead_of reader g false [] ≡ []

-- a section is passed, with the games of a text that goes on after it
pub record ReadsSection {S : Type 0} (g : Geometry) (supply : S → Supply) (is_failed : S → Bool)
    (pulls : S → ℕ) (old new : Input S) (begun row before after : BoundedBuf)
    (result : Result (Option Found) GameFault) : Type 0 where
  pub passed : List ℕ
  pub passes : Passes supply is_failed pulls old new passed (is_failure result)
  pub rows : OnOk result ((limit : ℕ) → IsKept limit [] begun → IsKept limit passed row)
  pub kept : OnOk result ((limit : ℕ) → IsKept limit [] before → IsKept limit (spaces_on [] passed) after)
  pub ends : IfOk result (λ said. MatchOption said ⊥ (λ found. EndsWell found passed))
  pub said : IfOk result (λ said. MatchOption said ⊥ (λ found. (bytes front : List ℕ) (games : List Said)
      → (new.met_end ≡ true → bytes ≡ []) → HasGames g (new.unread ++ bytes) front games
      → HasGames g (passed ++ (new.unread ++ bytes)) []
      (said_with found (row_of passed) (spaces_on [] passed ++ front) ∷ games)))
