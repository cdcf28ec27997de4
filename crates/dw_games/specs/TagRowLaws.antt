-- Laws of the whole tags of a text.
use Rattle.std.specs.Prelude.{◌≡◌, ℕ, List, false, map, reverse}
use Rattle.dw_notation.specs.Tags.{Tag, IsSection}
use Rattle.dw_games.specs.TagRows.{TagText, AreTags}

-- a row of whole tags of a text, which is the only one
pub record HasOneRowOfTags (text : List ℕ) : Type 0 where
  pub tags : List TagText
  pub are : AreTags text tags
  pub one : (others : List TagText) → AreTags text others → others ≡ tags

-- each text has exactly one row of whole tags
abbrev pub OneRowOfTags : Type 0
OneRowOfTags = (text : List ℕ) → HasOneRowOfTags text

-- the whole tags of a section without an unclosed tag are the section's own; a section has its last tag in front
abbrev pub SectionsHaveTheirTags : Type 0
SectionsHaveTheirTags = (text : List ℕ) (tags : List Tag) (found : List TagText) → IsSection text tags false false
    → AreTags text found → map (λ (t : TagText). t.tag) found ≡ reverse tags
