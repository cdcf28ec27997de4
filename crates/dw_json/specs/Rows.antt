-- Rows of JSON: objects of numbers, texts, arrays and other objects, each row in a line.
use Rattle.std.specs.Prelude.{◌≡◌, ℕ, List, [], ◌∷◌, ◌++◌, map, codes, decimal}
use Rattle.json.specs.Json.{Json, Items, Members, array, item, member, no_items, no_members, number, object, string}
use Rattle.json.specs.Print.{print}
use Rattle.json.specs.Tree.{json_tokens}

-- a member of an object: its name and its value
abbrev pub Member : Type 0
Member = List ℕ × Json

-- a number as JSON, by its decimal digits
abbrev pub count : ℕ → Json
count n = number (decimal n)

-- values one after another
abbrev pub items_of : List Json → Items
items_of [] = no_items
items_of (value ∷ values) = item value (items_of values)

-- members one after another
abbrev pub members_of : List Member → Members
members_of [] = no_members
members_of (one ∷ members) = member one.0 one.1 (members_of members)

-- an array of texts
abbrev pub texts : List (List ℕ) → Json
texts all = array (items_of (map string all))

-- an array of pairs of texts
abbrev pub pairs : List (List ℕ × List ℕ) → Json
pairs all = array (items_of (map (λ pair. texts (pair.0 ∷ pair.1 ∷ [])) all))

-- an array of pairs of a text and a number
abbrev pub counts : List (List ℕ × ℕ) → Json
counts all = array (items_of (map (λ pair. array (items_of (string pair.0 ∷ count pair.1 ∷ []))) all))

-- an array of objects
abbrev pub objects : List (List Member) → Json
objects all = array (items_of (map (λ members. object (members_of members)) all))

-- the members of one object for each of these things, in their order
abbrev pub AreObjects : {X : Type 0} → (One : X → List Member → Type 0) → List X → List (List Member) → Type 0
AreObjects One [] each = each ≡ []
AreObjects One (x ∷ xs) each =
    (members : List Member) × (rest : List (List Member)) × One x members × AreObjects One xs rest
    × (each ≡ members ∷ rest)

-- the text of a value: no blanks, texts in quotes with their escapes, and the members of an object in their order
abbrev pub json_text : Json → List ℕ
json_text value = print (json_tokens value)

-- an object in a line of its own
abbrev pub row : List Member → List ℕ
row members = json_text (object (members_of members)) ++ codes "\n"
