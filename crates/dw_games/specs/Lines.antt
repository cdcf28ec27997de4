-- A written line: a movetext without variations, of an odd number of moves.
use Rattle.std.specs.Prelude.{None, ◌≡◌, ℕ, ◌+◌, ◌%◌, ◌<◌, ◌≤◌, true, List, [], ◌∷◌, ◌++◌, length, codes}
use Rattle.std.proofs.Common.{zero}
use Rattle.dw_board.specs.Geometry.{Geometry}
use Rattle.dw_board.specs.Placement.{Placement}
use Rattle.dw_moves.specs.Moves.{Move}
use Rattle.dw_games.specs.Tokens.{Token, AreTokens}
use Rattle.dw_games.specs.Play.{IsResult}
use Rattle.dw_games.specs.Printed.{first_line, goes_on, variation, IsLine, AreComments}
use Rattle.dw_games.specs.Faults.{FaultAt, name_of, number_of}
use Rattle.dw_games.specs.declared.tokens.TokenKind.TheVariants.{Opens}
use Rattle.dw_games.specs.declared.movetext.TheConstants.{MAX_MOVETEXT}
use Rattle.dw_games.specs.declared.fault.MovetextFaultKind.{MovetextFaultKind}
use Rattle.dw_games.specs.declared.fault.MovetextFaultKind.TheVariants.{Variation, TooLarge, Empty}
use Rattle.dw_games.specs.declared.fault.MovetextFault.{MovetextFault}
use Rattle.dw_games.specs.declared.fault.MovetextFault.TheVariants as text
use Rattle.dw_games.specs.declared.fault.LineFaultKind.{LineFaultKind}
use Rattle.dw_games.specs.declared.fault.LineFaultKind.TheVariants.{Movetext, Even}
use Rattle.dw_games.specs.declared.fault.LineFault.{LineFault}
use Rattle.dw_games.specs.declared.fault.LineFault.TheVariants.{Refused, Memory}

-- tokens of play in which no parenthesis may be open, and its moves
abbrev pub IsStraight : Geometry → Placement → List Token → List Move → Type 0
IsStraight g p ts moves =
    (paths : List (List Move)) × IsLine g p zero first_line ts (goes_on variation [] moves None) paths

-- play without variations: without a result, or with one and then comments alone
pub data IsPlainGame (g : Geometry) (p : Placement) : List Token → (moves : List Move) → Type 0 where
  going_on : {ts : List Token} {moves : List Move} → IsStraight g p ts moves → IsPlainGame g p ts moves
  ended : {ts : List Token} {result : Token} {moves : List Move} (comments : List Token) → IsStraight g p ts moves
      → IsResult result → AreComments comments → IsPlainGame g p (ts ++ result ∷ comments) moves

-- The moves of a written line: play without variations, with an odd number of moves.
pub record IsWrittenLine (g : Geometry) (p : Placement) (text : List ℕ) (moves : List Move) : Type 0 where
  pub size : length text ≤ MAX_MOVETEXT
  pub tokens : List Token
  pub are_tokens : AreTokens 1 true text tokens []
  pub game : IsPlainGame g p tokens moves
  pub odd : length moves % 2 ≡ 1

-- the number of a fault of a line
abbrev pub line_number_of : LineFaultKind → ℕ
line_number_of (Movetext what) = number_of what
line_number_of Even = 11

-- the name of a fault of a line
abbrev pub line_name_of : LineFaultKind → List ℕ
line_name_of (Movetext what) = name_of what
line_name_of Even = codes "even"

-- the fault of a movetext as that of a line
abbrev pub line_fault_of : MovetextFault → LineFault
line_fault_of (text.Refused what place) = Refused (Movetext what) place
line_fault_of text.Memory = Memory

-- after these tokens, the next one has a fault of this kind: it begins a variation, or it is at fault in any movetext
pub data LineFaultAt (g : Geometry) (p : Placement) : List Token → Token → MovetextFaultKind → Type 0 where
  begins_variation : {ts : List Token} {moves : List Move} {t : Token} → IsStraight g p ts moves → t.what ≡ Opens
      → LineFaultAt g p ts t Variation
  other : {ts : List Token} {moves : List Move} {t : Token} {what : MovetextFaultKind} → IsPlainGame g p ts moves
      → FaultAt g p ts t what → LineFaultAt g p ts t what

-- The first fault of a text as a line, and its place: that of the token at fault, or the end of the text. A text that
-- is too large has no other.
pub data IsFirstLineFault (g : Geometry) (p : Placement) : List ℕ → LineFaultKind → ℕ → Type 0 where
  too_large : {text : List ℕ} → MAX_MOVETEXT < length text
      → IsFirstLineFault g p text (Movetext TooLarge) (MAX_MOVETEXT + 1)
  at_token : {text : List ℕ} (before : List Token) (t : Token) (rest : List ℕ) {what : MovetextFaultKind}
      → length text ≤ MAX_MOVETEXT → AreTokens 1 true text (before ++ t ∷ []) rest → LineFaultAt g p before t what
      → IsFirstLineFault g p text (Movetext what) t.place
  no_move : {text : List ℕ} (tokens : List Token) → length text ≤ MAX_MOVETEXT → AreTokens 1 true text tokens []
      → IsPlainGame g p tokens [] → IsFirstLineFault g p text (Movetext Empty) (length text + 1)
  even : {text : List ℕ} (tokens : List Token) (moves : List Move) → length text ≤ MAX_MOVETEXT
      → AreTokens 1 true text tokens [] → IsPlainGame g p tokens moves → 0 < length moves → length moves % 2 ≡ 0
      → IsFirstLineFault g p text Even (length text + 1)

-- a text is refused with its first fault; memory can be refused for any text
abbrev pub IsLineRefusal : Geometry → Placement → List ℕ → LineFault → Type 0
IsLineRefusal g p text (Refused what place) = IsFirstLineFault g p text what place
IsLineRefusal g p text Memory = Unit {0}
