-- A tag that is read from the front of a text.
use Rattle.std.specs.Prelude.{◌≡◌, ℕ, List, ◌++◌}
use Rattle.dw_notation.specs.Tags.{Tag, IsTag}
use Rattle.dw_notation.specs.declared.tags.Tag.{Tag as ReadTag}

-- a tag as a value, for any owner of its bytes
abbrev pub said_by_tag : ReadTag → Tag
said_by_tag read = record { name = read.name.now; value = read.value.items }

-- the bytes do not begin with a whole tag
abbrev pub NoTag : List ℕ → Type 0
NoTag bytes = (text more : List ℕ) (tag : Tag) → bytes ≡ text ++ more → IsTag text tag → ⊥
