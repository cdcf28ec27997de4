-- The first fault of a movetext, by the grammar: a token that may not follow the tokens before.
use Rattle.std.specs.Prelude.{◌≡◌, ◌≢◌, ◌⊎◌, ℕ, ◌+◌, ◌<◌, ◌≤◌, true, Result, Ok, Err, List, [], ◌∷◌, ◌++◌, codes}
use Rattle.std.specs.Prelude.{length, Option}
use Rattle.std.proofs.Common.{zero, suc}
use Rattle.dw_board.specs.Geometry.{Geometry}
use Rattle.dw_board.specs.Placement.{Placement}
use Rattle.dw_moves.specs.Moves.{Move}
use Rattle.dw_games.specs.Tokens.{Token, AreTokens}
use Rattle.dw_games.specs.Play.{IsResult, HasForm}
use Rattle.dw_games.specs.Printed.{Kind, Line, begins, goes_on, first_line, CannotFollow, IsLine, IsPlay, IsOver}
use Rattle.dw_games.specs.declared.tokens.TokenKind.TheVariants.{Comment, Written, Opens, Closes, CutOff, Unknown}
use Rattle.dw_games.specs.declared.movetext.TheConstants.{MAX_OPEN, MAX_MOVETEXT}
use Rattle.dw_games.specs.Movetext.{IsTree}
use Rattle.dw_games.specs.Walk.{PlayedTree}
use Rattle.dw_games.specs.declared.fault.MovetextFault.{MovetextFault}
use Rattle.dw_games.specs.declared.fault.MovetextFault.TheVariants.{Refused, Memory}
use Rattle.dw_games.specs.declared.fault.MovetextFaultKind.{MovetextFaultKind}
use Rattle.dw_games.specs.declared.fault.MovetextFaultKind.TheVariants.{Token as NoToken, NoSuchMove, Ambiguous}
use Rattle.dw_games.specs.declared.fault.MovetextFaultKind.TheVariants.{Variation, Unclosed, Rest, TooDeep, TooLong}
use Rattle.dw_games.specs.declared.fault.MovetextFaultKind.TheVariants.{TooLarge, Empty, Reply}

-- the number of a fault
abbrev pub number_of : MovetextFaultKind → ℕ
number_of NoToken = 1
number_of NoSuchMove = 2
number_of Ambiguous = 3
number_of Variation = 4
number_of Unclosed = 5
number_of Rest = 6
number_of TooDeep = 7
number_of TooLong = 8
number_of TooLarge = 9
number_of Empty = 10
number_of Reply = 12

-- the name of a fault
abbrev pub name_of : MovetextFaultKind → List ℕ
name_of NoToken = codes "token"
name_of NoSuchMove = codes "no such move"
name_of Ambiguous = codes "ambiguous"
name_of Variation = codes "variation"
name_of Unclosed = codes "unclosed"
name_of Rest = codes "rest"
name_of TooDeep = codes "too deep"
name_of TooLong = codes "too long"
name_of TooLarge = codes "too large"
name_of Empty = codes "empty"
name_of Reply = codes "reply"

-- These tokens have no result so far. The number says how many more parentheses may be opened after them, and the line
-- is that of the innermost open one.
pub data IsOpen (g : Geometry) (p : Placement) : ℕ → List Token → Line → Type 0 where
  outermost : {ts : List Token} {line : Line} {paths : List (List Move)} → IsLine g p MAX_OPEN first_line ts line paths
      → IsOpen g p MAX_OPEN ts line
  inner : {room : ℕ} {ts us : List Token} {kind : Kind} {before : List Move} {answer : Option (List Move)} {line : Line}
      {paths : List (List Move)} (moves : List Move) (last : Move) (opening : Token)
      → IsOpen g p (suc room) ts (goes_on kind before (moves ++ last ∷ []) answer) → opening.what ≡ Opens
      → IsLine g p room (begins (before ++ moves) last) us line paths → IsOpen g p room (ts ++ opening ∷ us) line

-- a token is neither a result nor of the form of a move
pub record IsNeither (g : Geometry) (t : Token) : Type 0 where
  pub written : t.what ≡ Written
  pub no_result : IsResult t → ⊥
  pub no_form : HasForm g t → ⊥

-- a token that is unknown or cut off, or that is neither a result nor of the form of a move
abbrev pub IsUnreadable : Geometry → Token → Type 0
IsUnreadable g t = (t.what ≡ Unknown) ⊎ ((t.what ≡ CutOff) ⊎ IsNeither g t)

-- no move of a line precedes
abbrev pub HasNoMove : Line → Type 0
HasNoMove (begins front last) = Unit {0}
HasNoMove (goes_on kind before moves answer) = moves ≡ []

-- after these tokens, the next one has a fault of this kind
pub data FaultAt (g : Geometry) (p : Placement) : List Token → Token → MovetextFaultKind → Type 0 where
  unreadable : {room : ℕ} {ts : List Token} {line : Line} {t : Token} → IsOpen g p room ts line → IsUnreadable g t
      → FaultAt g p ts t NoToken
  refused : {room : ℕ} {ts : List Token} {line : Line} {t : Token} {what : MovetextFaultKind} → IsOpen g p room ts line
      → CannotFollow g p line t what → FaultAt g p ts t what
  no_move_before : {room : ℕ} {ts : List Token} {line : Line} {t : Token} → IsOpen g p room ts line → HasNoMove line
      → t.what ≡ Opens → FaultAt g p ts t Variation
  none_open : {ts : List Token} {paths : List (List Move)} {t : Token} → IsPlay g p ts paths → t.what ≡ Closes
      → FaultAt g p ts t Variation
  within : {room : ℕ} {ts : List Token} {line : Line} {t : Token} → IsOpen g p room ts line → room < MAX_OPEN
      → IsResult t → FaultAt g p ts t Unclosed
  behind_result : {ts : List Token} {paths : List (List Move)} {t : Token} → IsOver g p ts paths → t.what ≢ Comment
      → t.what ≢ CutOff → FaultAt g p ts t Rest
  cut_off : {ts : List Token} {paths : List (List Move)} {t : Token} → IsOver g p ts paths → t.what ≡ CutOff
      → FaultAt g p ts t NoToken
  too_deep : {ts : List Token} {kind : Kind} {before : List Move} {answer : Option (List Move)} {t : Token}
      (moves : List Move) (last : Move) → IsOpen g p zero ts (goes_on kind before (moves ++ last ∷ []) answer)
      → t.what ≡ Opens → FaultAt g p ts t TooDeep

-- after all tokens something is missing: the end of a variation, or any move
pub data FaultAtEnd (g : Geometry) (p : Placement) : List Token → MovetextFaultKind → Type 0 where
  unclosed : {room : ℕ} {ts : List Token} {line : Line} → IsOpen g p room ts line → room < MAX_OPEN
      → FaultAtEnd g p ts Unclosed
  no_move : {ts : List Token} → IsPlay g p ts [] ⊎ IsOver g p ts [] → FaultAtEnd g p ts Empty

-- The first fault of a text, and its place: that of the token at fault, or the place after the end of the text. A text
-- that is too large has no other fault.
pub data IsFirstFault (g : Geometry) (p : Placement) : List ℕ → MovetextFaultKind → ℕ → Type 0 where
  too_large : {text : List ℕ} → MAX_MOVETEXT < length text → IsFirstFault g p text TooLarge (MAX_MOVETEXT + 1)
  at_token : {text : List ℕ} (before : List Token) (t : Token) (rest : List ℕ) {what : MovetextFaultKind}
      → length text ≤ MAX_MOVETEXT → AreTokens 1 true text (before ++ t ∷ []) rest → FaultAt g p before t what
      → IsFirstFault g p text what t.place
  at_end : {text : List ℕ} (tokens : List Token) {what : MovetextFaultKind} → length text ≤ MAX_MOVETEXT
      → AreTokens 1 true text tokens [] → FaultAtEnd g p tokens what → IsFirstFault g p text what (length text + 1)

-- The answer to a text: its tree from this position, or its first fault. Memory can be refused for any text.
abbrev pub IsAnswer : Geometry → Placement → List ℕ → Result PlayedTree MovetextFault → Type 0
IsAnswer g p text (Ok tree) = (tree.start ≡ p) × IsTree g p text tree.paths
IsAnswer g p text (Err (Refused what place)) = IsFirstFault g p text what place
IsAnswer g p text (Err Memory) = Unit {0}
