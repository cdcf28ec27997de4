-- The grammar of tags and sections, and the problem of a section.
use Rattle.std.specs.Prelude.{◌≡◌, ℕ, ◌==◌, ◌+◌, ◌-◌, ◌*◌, ◌<◌, ◌||◌, ◌&&◌, if◌then◌else◌, not, List, [], ◌∷◌, ◌++◌}
use Rattle.std.specs.Prelude.{length, map, codes, Bool, true, false, Err, nat_lt, MatchBool}
use Rattle.std.specs.List.{list_all, list_any}
use Rattle.std.specs.Char.{to_ascii_lowercase, is_ascii_digit, is_ascii_alphanumeric}
use Rattle.dw_board.specs.Geometry.{Geometry}
use Rattle.dw_board.specs.FenTokens.{is_blank}
use Rattle.dw_notation.specs.TextLines.{line_feed, carriage_return, Found, FenSays}
use Rattle.dw_notation.specs.declared.problems.TheConstants.{MAX_SECTION}
use Rattle.dw_notation.specs.declared.problems.ProblemFault.TheVariants.{NoFen, TwoFens, WrongGame, SectionTooLong}
use Rattle.dw_notation.specs.declared.problems.ProblemFault.TheVariants.{UnclosedTag}

-- the bytes with a meaning in such a text
abbrev pub open_bracket : ℕ
open_bracket = 91

abbrev pub close_bracket : ℕ
close_bracket = 93

abbrev pub open_brace : ℕ
open_brace = 123

abbrev pub close_brace : ℕ
close_brace = 125

abbrev pub quotation_mark : ℕ
quotation_mark = 34

abbrev pub back_slash : ℕ
back_slash = 92

abbrev pub underscore : ℕ
underscore = 95

-- an ASCII letter, a digit or an underscore
abbrev pub is_name_byte : ℕ → Bool
is_name_byte byte = is_ascii_alphanumeric byte || (byte == underscore)

-- a line feed or a carriage return
abbrev pub ends_line : ℕ → Bool
ends_line byte = (byte == line_feed) || (byte == carriage_return)

-- a name and a value
pub record Tag : Type 0 where
  pub name : List ℕ
  pub value : List ℕ

-- any byte but a quotation mark, a backslash or the end of a line
abbrev pub is_plain : ℕ → Bool
is_plain byte = not ((byte == quotation_mark) || ((byte == back_slash) || ends_line byte))

-- the bytes between the quotation marks of a tag, and the value that they stand for
pub data Spells : List ℕ → List ℕ → Type 0 where
  nothing : Spells [] []
  quotation : {text value : List ℕ} → Spells text value
      → Spells (back_slash ∷ quotation_mark ∷ text) (quotation_mark ∷ value)
  backslash : {text value : List ℕ} → Spells text value → Spells (back_slash ∷ back_slash ∷ text) (back_slash ∷ value)
  lone : {text value : List ℕ} (byte : ℕ) → is_plain byte ≡ true → Spells text value
      → Spells (back_slash ∷ byte ∷ text) (back_slash ∷ byte ∷ value)
  plain : {text value : List ℕ} (byte : ℕ) → is_plain byte ≡ true → Spells text value
      → Spells (byte ∷ text) (byte ∷ value)

-- a bracket, a name, a value in quotation marks and a bracket; blanks may stand between them
pub record IsTag (text : List ℕ) (tag : Tag) : Type 0 where
  pub first : List ℕ
  pub middle : List ℕ
  pub last : List ℕ
  pub spelling : List ℕ
  pub blank_first : list_all is_blank first ≡ true
  pub blank_middle : list_all is_blank middle ≡ true
  pub blank_last : list_all is_blank last ≡ true
  pub some : 0 < length tag.name
  pub named : list_all is_name_byte tag.name ≡ true
  pub spells : Spells spelling tag.value
  pub joined : text ≡ open_bracket ∷ (first ++ (tag.name ++ (middle ++ quotation_mark ∷ (spelling
      ++ quotation_mark ∷ (last ++ close_bracket ∷ [])))))

-- a bracket and the bytes after it in its line, no beginning of which is a whole tag
pub record IsUnclosed (text : List ℕ) : Type 0 where
  pub line : List ℕ
  pub in_line : list_all (λ byte. not (ends_line byte)) line ≡ true
  pub joined : text ≡ open_bracket ∷ line
  pub broken : (front back : List ℕ) (tag : Tag) → text ≡ front ++ back → IsTag front tag → ⊥

-- a blank or the end of a line
abbrev pub is_space : ℕ → Bool
is_space byte = is_blank byte || ends_line byte

-- the bytes between two tags: blanks and ends of lines only; after an unclosed tag the first is the end of its line
abbrev pub IsGap : Bool → List ℕ → Type 0
IsGap false gap = list_all is_space gap ≡ true
IsGap true [] = ⊥
IsGap true (byte ∷ gap) = (ends_line byte ≡ true) × (list_all is_space gap ≡ true)

-- a row of tags with gaps between: its whole tags, the last one first; whether any is unclosed; whether the last one is
pub data IsSection : List ℕ → List Tag → Bool → Bool → Type 0 where
  single : {text : List ℕ} {tag : Tag} → IsTag text tag → IsSection text (tag ∷ []) false false
  broken : {text : List ℕ} → IsUnclosed text → IsSection text [] true true
  longer : (text gap next : List ℕ) {tags : List Tag} {tag : Tag} {some last : Bool} → IsSection text tags some last
      → IsGap last gap → IsTag next tag
      → IsSection (text ++ (gap ++ next)) (tag ∷ tags) some false
  longer_broken : (text gap next : List ℕ) {tags : List Tag} {some last : Bool} → IsSection text tags some last
      → IsGap last gap → IsUnclosed next
      → IsSection (text ++ (gap ++ next)) tags true true

-- whether two names are equal, without regard to the case of their letters
abbrev pub same_name : List ℕ → List ℕ → Bool
same_name [] [] = true
same_name [] (b ∷ other) = false
same_name (a ∷ name) [] = false
same_name (a ∷ name) (b ∷ other) = (to_ascii_lowercase a == to_ascii_lowercase b) && same_name name other

-- the values of the tags of a name
abbrev pub values_named : List ℕ → List Tag → List (List ℕ)
values_named name [] = []
values_named name (tag ∷ tags) =
    if same_name tag.name name then tag.value ∷ values_named name tags else values_named name tags

-- the number n continued by the digits at the front of a text
abbrev pub number_on : ℕ → List ℕ → ℕ
number_on n [] = n
number_on n (byte ∷ text) = if is_ascii_digit byte then number_on (n * 10 + (byte - 48)) text else n

-- the game that a value names: the number at its front, blanks aside; 20, international draughts, if there is none
abbrev pub game_of : List ℕ → ℕ
game_of [] = 20
game_of (byte ∷ text) = if is_blank byte then game_of text
    else (if is_ascii_digit byte then number_on (byte - 48) text else 20)

-- whether a GameType tag is wrong: it names another game than 20, international draughts, or the board has not ten rows
abbrev pub is_wrong : Geometry → List ℕ → Bool
is_wrong g games = list_any (λ game. not ((g.rows == 10) && (game == 20))) games

-- the position that the value of the only FEN tag names, or the fault
abbrev pub FensSay : Geometry → List (List ℕ) → Found → Type 0
FensSay g [] found = found ≡ Err NoFen
FensSay g (text ∷ []) found = FenSays g text found
FensSay g (text ∷ other ∷ fens) found = found ≡ Err TwoFens

-- the problem of a section: the fault of its length, of an unclosed tag, or of a wrong game, else that of its FEN tag
abbrev pub SectionSays : Geometry → ℕ → Bool → List Tag → Found → Type 0
SectionSays g size some tags found =
    MatchBool (nat_lt MAX_SECTION size) (found ≡ Err SectionTooLong)
    (MatchBool some (found ≡ Err UnclosedTag)
    (MatchBool (is_wrong g (map game_of (values_named (codes "GameType") tags))) (found ≡ Err WrongGame)
    (FensSay g (values_named (codes "FEN") tags) found)))
