-- Laws of escaped texts: they end nothing and begin nothing in a page, and can be read back.
use Rattle.std.specs.Prelude.{◌≡◌, ℕ, ◌==◌, ◌||◌, ◌&&◌, Bool, true, false, Option, Some, None, List, [], ◌∷◌, ◌++◌}
use Rattle.std.specs.Prelude.{codes, if◌then◌else◌, bytes_eq, nat_eq}
use Rattle.std.specs.List.{list_any, starts_with}
use Rattle.dw_page.specs.Escaping.{escaped}

-- the entities that are written
abbrev pub entities : List (List ℕ)
entities = codes "&lt;" ∷ codes "&gt;" ∷ codes "&amp;" ∷ codes "&quot;" ∷ codes "&#39;" ∷ []

-- whether a text that begins with a byte may stand in a page: it is none of < > " ', and if it is & an entity begins
abbrev pub may_stand : ℕ → List ℕ → Bool
may_stand b rest =
    if b == 60 || b == 62 || b == 34 || b == 39 then false
    else if b == 38 then list_any (starts_with nat_eq (b ∷ rest)) entities
    else true

-- whether each byte of a text may stand in a page
abbrev pub is_plain : List ℕ → Bool
is_plain [] = true
is_plain (b ∷ rest) = may_stand b rest && is_plain rest

-- the byte that a name means in a page
abbrev pub meant : List ℕ → ℕ
meant name =
    if bytes_eq name (codes "lt") then 60
    else if bytes_eq name (codes "gt") then 62
    else if bytes_eq name (codes "amp") then 38
    else if bytes_eq name (codes "quot") then 34
    else 39

-- the text that a browser reads: from & to ; is a name, of which it may have read some bytes already; any other byte
-- stands for itself
abbrev pub read : Option (List ℕ) → List ℕ → List ℕ
read None [] = []
read None (b ∷ rest) = if b == 38 then read (Some []) rest else b ∷ read None rest
read (Some name) [] = []
read (Some name) (b ∷ rest) =
    if b == 59 then meant name ∷ read None rest else read (Some (name ++ b ∷ [])) rest

-- an escaped text is plain, and a browser reads the original text
abbrev pub TextsAreEscaped : Type 0
TextsAreEscaped = (text : List ℕ) → (is_plain (escaped text) ≡ true) × (read None (escaped text) ≡ text)
