-- A text of tags as a whole: a row of comments, sections and other bytes, and its problems.
use Rattle.std.specs.Prelude.{◌≡◌, ◌==◌, ◌||◌, ◌⊎◌, ℕ, not, List, [], ◌∷◌, ◌++◌, length, Bool, true, false, Err}
use Rattle.std.specs.List.{list_all}
use Rattle.dw_board.specs.Geometry.{Geometry}
use Rattle.dw_notation.specs.TextLines.{Found, if_over}
use Rattle.dw_notation.specs.Tags.{open_bracket, open_brace, close_brace, is_space, Tag, IsGap, IsSection, SectionSays}
use Rattle.dw_notation.specs.declared.problems.ProblemFault.TheVariants.{UnclosedComment}

-- no closing brace
abbrev pub IsOpen : List ℕ → Type 0
IsOpen text = list_all (λ byte. not (byte == close_brace)) text ≡ true

-- a row of comments, sections and other bytes has the problems of its sections in turn; an open comment is a fault
pub data SectionsSay : Geometry → Bool → List ℕ → List Found → Type 0 where
  nothing : {g : Geometry} {over : Bool} → SectionsSay g over [] []
  other : {g : Geometry} {over : Bool} {more : List ℕ} {found : List Found} (byte : ℕ)
      → ((byte == open_bracket) || (byte == open_brace)) ≡ false
      → SectionsSay g over more found → SectionsSay g over (byte ∷ more) found
  comment : {g : Geometry} {over : Bool} {more : List ℕ} {found : List Found} (text : List ℕ) → IsOpen text
      → SectionsSay g over more found → SectionsSay g over (open_brace ∷ (text ++ close_brace ∷ more)) found
  last_comment : {g : Geometry} {over : Bool} (text : List ℕ) → IsOpen text
      → SectionsSay g over (open_brace ∷ text) (if_over over (Err UnclosedComment ∷ []))
  section : {g : Geometry} {over : Bool} {tags : List Tag} {some last : Bool} {more : List ℕ} {found : List Found}
      (text gap : List ℕ) (byte : ℕ) (said : Found)
      → IsSection text tags some last → IsGap last gap → not ((byte == open_bracket) || is_space byte) ≡ true
      → SectionSays g (length text) some tags said → SectionsSay g over (byte ∷ more) found
      → SectionsSay g over (text ++ (gap ++ byte ∷ more)) (said ∷ found)
  last_section : {g : Geometry} {over : Bool} {tags : List Tag} {some last : Bool} (text gap : List ℕ) (said : Found)
      → IsSection text tags some last → IsGap last gap ⊎ (gap ≡ []) → SectionSays g (length text) some tags said
      → SectionsSay g over (text ++ gap) (if_over over (said ∷ []))
