-- The bytes between the sections of a text of tags.
use Rattle.std.specs.Prelude.{◌≡◌, ◌==◌, ◌||◌, ℕ, List, [], ◌∷◌, Bool, true, false}
use Rattle.dw_notation.specs.Tags.{open_bracket, open_brace, close_brace}
use Rattle.dw_notation.specs.declared.problems.section_finder.SectionFinder.{SectionFinder}

-- comments and other bytes between sections, by whether they begin in a comment and whether they end in one
pub data IsBetween : (begins ends : Bool) → List ℕ → Type 0 where
  nothing : {here : Bool} → IsBetween here here []
  other : {ends : Bool} {more : List ℕ} (byte : ℕ) → ((byte == open_bracket) || (byte == open_brace)) ≡ false
      → IsBetween false ends more → IsBetween false ends (byte ∷ more)
  opened : {ends : Bool} {more : List ℕ} → IsBetween true ends more → IsBetween false ends (open_brace ∷ more)
  within : {ends : Bool} {more : List ℕ} (byte : ℕ) → (byte == close_brace) ≡ false → IsBetween true ends more
      → IsBetween true ends (byte ∷ more)
  closed : {ends : Bool} {more : List ℕ} → IsBetween false ends more → IsBetween true ends (close_brace ∷ more)

-- whether the text stands in a comment where the next section is looked for
abbrev pub in_comment : SectionFinder → Bool
in_comment finder = finder.is_comment
