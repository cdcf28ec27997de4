-- Signs of one to three bytes, and rows of them.
use Rattle.std.specs.Prelude.{◌≡◌, ◌==◌, ◌&&◌, ◌<◌, if◌then◌else◌, ℕ, Bool, true, false, List, [], ◌∷◌, ◌++◌, length}
use Rattle.std.specs.Prelude.{codes}
use Rattle.dw_board.specs.FenTokens.{is_digit}

-- dashes: -, the byte 0x96, and U+2011, U+2013 and U+2212 in UTF-8
abbrev pub dashes : List (List ℕ)
dashes = codes "-" ∷ (150 ∷ []) ∷ (226 ∷ 128 ∷ 145 ∷ []) ∷ (226 ∷ 128 ∷ 147 ∷ []) ∷ (226 ∷ 136 ∷ 146 ∷ []) ∷ []

-- crosses: x, X, a colon, the byte 0xD7, and U+00D7 in UTF-8
abbrev pub crosses : List (List ℕ)
crosses = codes "x" ∷ codes "X" ∷ codes ":" ∷ (215 ∷ []) ∷ (195 ∷ 151 ∷ []) ∷ []

-- marks: ! ? + # =, the byte 0xB1, and U+00B1 in UTF-8
abbrev pub marks : List (List ℕ)
marks = codes "!" ∷ codes "?" ∷ codes "+" ∷ codes "#" ∷ codes "=" ∷ (177 ∷ []) ∷ (194 ∷ 177 ∷ []) ∷ []

-- whether a text begins with these bytes
abbrev pub begins : (sign text : List ℕ) → Bool
begins [] text = true
begins (x ∷ sign) [] = false
begins (x ∷ sign) (y ∷ text) = (y == x) && begins sign text

-- how many bytes the first of some signs has that a text begins with; 0 if it begins with none of them
abbrev pub width : List (List ℕ) → (text : List ℕ) → ℕ
width [] text = 0
width (sign ∷ signs) text = if begins sign text then length sign else width signs text

-- the signs of moves and results, but digits
abbrev pub written_signs : List (List ℕ)
written_signs = codes "/" ∷ (dashes ++ crosses)

-- how many bytes a digit, a dash, a cross or a slash has at the front of a text; 0 if it begins with none of them
abbrev pub written_width : List ℕ → ℕ
written_width [] = 0
written_width (byte ∷ bytes) = if is_digit byte then 1 else width written_signs (byte ∷ bytes)

-- a row of signs, and the bytes after it, which begin with no such sign
pub data IsRow (width : List ℕ → ℕ) : (row after : List ℕ) → Type 0 where
  no_sign : {after : List ℕ} → width after ≡ 0 → IsRow width [] after
  one_sign : {row after : List ℕ} (sign : List ℕ) → 0 < length sign → width (sign ++ (row ++ after)) ≡ length sign
      → IsRow width row after → IsRow width (sign ++ row) after
