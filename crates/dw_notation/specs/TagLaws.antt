-- Laws of texts of tags.
use Rattle.std.specs.Prelude.{◌≡◌, ◌⊎◌, ℕ, List, ◌++◌, Bool}
use Rattle.dw_board.specs.Geometry.{Geometry}
use Rattle.dw_notation.specs.TextLines.{Found}
use Rattle.dw_notation.specs.Tags.{Tag, IsTag}
use Rattle.dw_notation.specs.ReadTags.{NoTag}
use Rattle.dw_notation.specs.WholeTexts.{SectionsSay}

-- each text of tags has exactly one list of problems
pub record TextsOfTagsSay : Type 0 where
  pub some : (g : Geometry) (over : Bool) (bytes : List ℕ) → (found : List Found) × SectionsSay g over bytes found
  pub only : (g : Geometry) (over : Bool) (bytes : List ℕ) (found others : List Found) → SectionsSay g over bytes found
      → SectionsSay g over bytes others → found ≡ others

-- the bytes begin with a whole tag
pub record BeginsWithTag (bytes : List ℕ) : Type 0 where
  pub text : List ℕ
  pub more : List ℕ
  pub tag : Tag
  pub joined : bytes ≡ text ++ more
  pub is : IsTag text tag

-- each text begins with one whole tag, or with none
pub record OneTagAtFront : Type 0 where
  pub some : (bytes : List ℕ) → BeginsWithTag bytes ⊎ NoTag bytes
  pub only : (bytes : List ℕ) (first other : BeginsWithTag bytes)
      → (other.text ≡ first.text) × (other.tag ≡ first.tag) × (other.more ≡ first.more)
