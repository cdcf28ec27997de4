-- Texts from outside, as they stand in a page.
use Rattle.std.specs.Prelude.{ℕ, ◌==◌, List, [], ◌∷◌, codes, if◌then◌else◌, map, nat_lt, encode_utf8}
use Rattle.std.specs.List.{flat_map}
use Rattle.std.specs.Str.{is_utf8}

-- a byte, escaped: an entity for each of the five that have a meaning in HTML, any other byte itself
abbrev pub shown : ℕ → List ℕ
shown b =
    if b == 60 then codes "&lt;"
    else if b == 62 then codes "&gt;"
    else if b == 38 then codes "&amp;"
    else if b == 34 then codes "&quot;"
    else if b == 39 then codes "&#39;"
    else b ∷ []

-- a text, escaped
abbrev pub escaped : List ℕ → List ℕ
escaped text = flat_map shown text

-- a byte, or a blank for a control character
abbrev pub printable : ℕ → ℕ
printable b = if nat_lt b 32 then 32 else if b == 127 then 32 else b

-- bytes as a text in UTF-8: as they stand if they are one, else each of them is a character of Latin-1
abbrev pub read_as : List ℕ → List ℕ
read_as bytes = if is_utf8 bytes then bytes else flat_map encode_utf8 bytes

-- a text, escaped, with a blank for each control character
abbrev pub stands_for : List ℕ → List ℕ
stands_for text = escaped (map printable text)

-- input bytes, escaped
abbrev pub shown_bytes : List ℕ → List ℕ
shown_bytes bytes = stands_for (read_as bytes)
