-- The whole tags of a text, each as it stands there.
use Rattle.std.specs.Prelude.{◌≡◌, ℕ, true, false, List, [], ◌∷◌, ◌++◌, map}
use Rattle.dw_notation.specs.Tags.{Tag, IsTag, is_space}
use Rattle.dw_notation.specs.ReadTags.{NoTag, said_by_tag}
use Rattle.dw_notation.specs.declared.tags.Tag.{Tag as ReadTag}
use Rattle.dw_games.specs.Tokens.{begins_with}

-- a tag in a text: its bytes, from the first bracket to the last, and its value
pub record TagText : Type 0 where
  pub text : List ℕ
  pub tag : Tag

-- the whole tags of a text in turn, with only spaces before and between them, up to the first place without one
pub data AreTags : List ℕ → List TagText → Type 0 where
  nothing : {bytes : List ℕ} → begins_with is_space bytes ≡ false → NoTag bytes → AreTags bytes []
  space : {byte : ℕ} {bytes : List ℕ} {tags : List TagText} → is_space byte ≡ true → AreTags bytes tags
      → AreTags (byte ∷ bytes) tags
  tag : {bytes : List ℕ} {said : Tag} {tags : List TagText} (text : List ℕ) → IsTag text said → AreTags bytes tags
      → AreTags (text ++ bytes) (record { text = text; tag = said } ∷ tags)

-- a tag that was read, whatever holds its bytes
abbrev pub tag_text : ReadTag → TagText
tag_text read = record { text = read.text.now; tag = said_by_tag read }

-- the values of the tags that were read
abbrev pub said_by : List ReadTag → List Tag
said_by = map said_by_tag
