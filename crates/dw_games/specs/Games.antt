-- The games of a text of tags: the problem of each section, with the section's bytes and the movetext after them.
use Rattle.std.specs.Prelude.{◌≡◌, ◌==◌, ◌+◌, ◌||◌, ◌⊎◌, if◌then◌else◌, ℕ, not, List, [], ◌∷◌, ◌++◌, length, take, Bool}
use Rattle.std.specs.Prelude.{true, false, Ok, Err, nat_lt}
use Rattle.dw_board.specs.Geometry.{Geometry}
use Rattle.dw_notation.specs.TextLines.{Found, without_mark}
use Rattle.dw_notation.specs.Tags.{open_bracket, open_brace, close_brace, is_space, Tag, IsGap, IsSection, SectionSays}
use Rattle.dw_notation.specs.WholeTexts.{IsOpen}
use Rattle.dw_notation.specs.Problems.{Numbered}
use Rattle.dw_notation.specs.declared.problems.TheConstants.{MAX_PROBLEMS}
use Rattle.dw_notation.specs.declared.problems.ProblemFault.TheVariants.{UnclosedComment, TooManyProblems}
use Rattle.dw_games.specs.declared.movetext.TheConstants.{MAX_MOVETEXT}

-- the problem of a section, its bytes up to the end of its last tag, and its movetext
pub record Said : Type 0 where
  pub found : Found
  pub tags : List ℕ
  pub movetext : List ℕ

-- the bytes of a section; a refused one has none
abbrev pub tags_if_valid : Found → List ℕ → List ℕ
tags_if_valid (Ok position) text = text
tags_if_valid (Err fault) text = []

-- The kept part of a movetext: enough to see that it is too large, and nothing for a refused section.
abbrev pub told : Found → List ℕ → List ℕ
told (Ok position) movetext = take (MAX_MOVETEXT + 1) movetext
told (Err fault) movetext = []

-- the problem of a section, with the bytes that are kept of its tags and of its movetext
abbrev pub said_with : Found → (text movetext : List ℕ) → Said
said_with found text movetext = record {
  found = found;
  tags = tags_if_valid found text;
  movetext = told found movetext;
}

-- A row of comments, sections and other bytes: its front, before the first section, and the games of its sections in
-- turn. The movetext of a section is everything after its last tag, up to the next section.
pub data HasGames : Geometry → (text front : List ℕ) → List Said → Type 0 where
  nothing : {g : Geometry} → HasGames g [] [] []
  other : {g : Geometry} {more front : List ℕ} {games : List Said} (byte : ℕ)
      → ((byte == open_bracket) || (byte == open_brace)) ≡ false
      → HasGames g more front games → HasGames g (byte ∷ more) (byte ∷ front) games
  comment : {g : Geometry} {more front : List ℕ} {games : List Said} (text : List ℕ) → IsOpen text
      → HasGames g more front games
      → HasGames g (open_brace ∷ (text ++ close_brace ∷ more)) (open_brace ∷ (text ++ close_brace ∷ front)) games
  last_comment : {g : Geometry} (text : List ℕ) → IsOpen text
      → HasGames g (open_brace ∷ text) (open_brace ∷ text) (said_with (Err UnclosedComment) [] [] ∷ [])
  section : {g : Geometry} {tags : List Tag} {some last : Bool} {more front : List ℕ} {games : List Said}
      (text gap : List ℕ) (byte : ℕ) (found : Found)
      → IsSection text tags some last → IsGap last gap → not ((byte == open_bracket) || is_space byte) ≡ true
      → SectionSays g (length text) some tags found → HasGames g (byte ∷ more) front games
      → HasGames g (text ++ (gap ++ byte ∷ more)) [] (said_with found text (gap ++ front) ∷ games)
  last_section : {g : Geometry} {tags : List Tag} {some last : Bool} (text gap : List ℕ) (found : Found)
      → IsSection text tags some last → IsGap last gap ⊎ (gap ≡ []) → SectionSays g (length text) some tags found
      → HasGames g (text ++ gap) [] (said_with found text gap ∷ [])

-- a numbered game
pub record NumberedGame : Type 0 where
  pub number : ℕ
  pub said : Said

-- games with their numbers, if this many were handed out before; the first one too many is refused, and is the last
abbrev pub games_from : ℕ → List Said → List NumberedGame
games_from handed [] = []
games_from handed (said ∷ more) =
    if nat_lt handed MAX_PROBLEMS then record { number = handed + 1; said = said } ∷ games_from (handed + 1) more
    else (if handed == MAX_PROBLEMS
    then record { number = handed + 1; said = said_with (Err TooManyProblems) [] [] } ∷ [] else [])

-- the games of a text
pub record AreGames (g : Geometry) (bytes : List ℕ) (games : List NumberedGame) : Type 0 where
  pub front : List ℕ
  pub said : List Said
  pub has : HasGames g (without_mark bytes) front said
  pub numbers : games ≡ games_from 0 said

-- the problem of a game
abbrev pub problem_of : NumberedGame → Numbered
problem_of game = record { number = game.number; found = game.said.found }
