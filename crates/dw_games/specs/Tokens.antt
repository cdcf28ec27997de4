-- The tokens of a movetext: a row of them with blanks and commas between makes up any text.
use Rattle.std.specs.Prelude.{◌≡◌, ℕ, ◌==◌, ◌+◌, ◌<◌, ◌||◌, ◌&&◌, not, Bool, true, false, List, [], ◌∷◌, ◌++◌, length}
use Rattle.std.specs.Prelude.{codes, drop, nat_le, if◌then◌else◌}
use Rattle.std.specs.List.{list_all, list_any}
use Rattle.dw_board.specs.FenTokens.{comma, full_stop, is_blank, is_digit}
use Rattle.dw_board.specs.Lists.{Member}
use Rattle.dw_notation.specs.Tags.{open_brace, close_brace, ends_line, is_space}
use Rattle.dw_games.specs.Signs.{IsRow, crosses, marks, width, written_width}
use Rattle.dw_games.specs.declared.tokens.TokenKind.{TokenKind}
use Rattle.dw_games.specs.declared.tokens.TokenKind.TheVariants.{Comment, Passed, Written, Opens, Closes, CutOff}
use Rattle.dw_games.specs.declared.tokens.TokenKind.TheVariants.{Unknown}

-- the signs of a movetext
abbrev pub semicolon : ℕ
semicolon = 59

abbrev pub per_cent : ℕ
per_cent = 37

abbrev pub dollar : ℕ
dollar = 36

abbrev pub open_parenthesis : ℕ
open_parenthesis = 40

abbrev pub close_parenthesis : ℕ
close_parenthesis = 41

abbrev pub star : ℕ
star = 42

abbrev pub plus : ℕ
plus = 43

-- a full stop
abbrev pub is_dot : ℕ → Bool
is_dot byte = byte == full_stop

-- the end of the number of a move: a full stop or a closing parenthesis
abbrev pub is_stop : ℕ → Bool
is_stop byte = is_dot byte || (byte == close_parenthesis)

-- an ASCII letter, but no x: that is a cross
abbrev pub is_letter : ℕ → Bool
is_letter byte = ((nat_le 65 byte && nat_le byte 90) || (nat_le 97 byte && nat_le byte 122))
    && not ((byte == 88) || (byte == 120))

-- any byte but a closing brace
abbrev pub is_inside : ℕ → Bool
is_inside byte = not (byte == close_brace)

-- any byte but the end of a line
abbrev pub is_in_line : ℕ → Bool
is_in_line byte = not (ends_line byte)

-- whether the first byte of a text passes a test
abbrev pub begins_with : (ℕ → Bool) → List ℕ → Bool
begins_with test [] = false
begins_with test (byte ∷ bytes) = test byte

-- a run of bytes that pass a test, and the bytes after it, the first of which does not
pub record IsRun (test : ℕ → Bool) (run after : List ℕ) : Type 0 where
  pub all : list_all test run ≡ true
  pub ends : begins_with test after ≡ false

-- the bytes of a text after those at its front that pass a test
abbrev pub behind : (ℕ → Bool) → List ℕ → List ℕ
behind test [] = []
behind test (byte ∷ bytes) = if test byte then behind test bytes else byte ∷ bytes

-- the beginning of a move, with its parenthesis or without: a digit, or a letter a to h with a digit 1 to 8
abbrev pub begins_move : List ℕ → Bool
begins_move [] = false
begins_move (byte ∷ bytes) = (is_digit byte || (byte == open_parenthesis))
    || ((nat_le 97 byte && nat_le byte 104) && begins_with (λ digit. nat_le 49 digit && nat_le digit 56) bytes)

-- the end of the number of a move, blanks, and the beginning of a move
abbrev pub stops_number : List ℕ → Bool
stops_number [] = false
stops_number (byte ∷ bytes) = (is_dot byte && begins_move (behind is_blank (behind is_dot bytes)))
    || ((byte == close_parenthesis) && begins_move (behind is_blank bytes))

-- blanks, the number of a move, blanks, and the beginning of a move
abbrev pub numbers_move : List ℕ → Bool
numbers_move bytes =
    begins_with is_digit (behind is_blank bytes) && stops_number (behind is_digit (behind is_blank bytes))

-- what stands between tokens: spaces and ends of lines, commas, and semicolons before the number of a move and a move
abbrev pub is_between : ℕ → List ℕ → Bool
is_between byte bytes = (is_space byte || (byte == comma)) || ((byte == semicolon) && numbers_move bytes)

-- a cross at the front of a text, and nothing more that moves and results are written with
abbrev pub is_lone_cross : List ℕ → Bool
is_lone_cross text = not (width crosses text == 0) && (written_width (drop (width crosses text) text) == 0)

-- a letter at the front of a text, and a plus sign
abbrev pub has_plus : List ℕ → Bool
has_plus [] = false
has_plus (byte ∷ bytes) = is_letter byte && begins_with (λ sign. sign == plus) bytes

-- a mark at the front of a text, one without a number
abbrev pub begins_mark : List ℕ → Bool
begins_mark text = not (width marks text == 0) || (is_lone_cross text || has_plus text)

-- whether a text begins with a token, by its first byte and those after it; a per cent sign begins one at the beginning
-- of a line alone
abbrev pub begins_token : Bool → ℕ → List ℕ → Bool
begins_token fresh byte bytes = (is_digit byte || list_any (λ sign. byte == sign) (codes "{;.$()*"))
    || ((fresh && (byte == per_cent)) || begins_mark (byte ∷ bytes))

-- A token of some kind, by its bytes and those after it, and by whether it stands at the beginning of a line.
pub data IsToken : Bool → TokenKind → (text after : List ℕ) → Type 0 where
  -- a comment in braces
  in_braces : {fresh : Bool} {inside after : List ℕ} → IsRun is_inside inside (close_brace ∷ after)
      → IsToken fresh Comment (open_brace ∷ (inside ++ close_brace ∷ [])) after
  -- a comment from a semicolon to the end of its line
  to_line_end : {fresh : Bool} {line after : List ℕ} → numbers_move (line ++ after) ≡ false
      → IsRun is_in_line line after
      → IsToken fresh Comment (semicolon ∷ line) after
  -- a whole line that is a comment
  whole_line : {line after : List ℕ} → IsRun is_in_line line after → IsToken true Comment (per_cent ∷ line) after
  -- the number of a move: digits with dots or a closing parenthesis after them, or dots alone
  number : {fresh : Bool} (digits : List ℕ) {dots after : List ℕ} → list_all is_digit digits ≡ true → 0 < length dots
      → IsRun is_dot dots after → IsToken fresh Passed (digits ++ dots) after
  closed_number : {fresh : Bool} (digits : List ℕ) {after : List ℕ} → 0 < length digits
      → list_all is_digit digits ≡ true → IsToken fresh Passed (digits ++ close_parenthesis ∷ []) after
  -- a mark by its number
  numbered_mark : {fresh : Bool} {digits after : List ℕ} → 0 < length digits → IsRun is_digit digits after
      → IsToken fresh Passed (dollar ∷ digits) after
  -- a row of marks
  mark_row : {fresh : Bool} {row after : List ℕ} → 0 < length row → IsRow (width marks) row after
      → IsToken fresh Passed row after
  -- a cross alone
  lone_cross : {fresh : Bool} {sign after : List ℕ} → Member sign crosses → written_width after ≡ 0
      → IsToken fresh Passed sign after
  -- a letter with a plus sign
  letter_plus : {fresh : Bool} {letter : ℕ} {after : List ℕ} → is_letter letter ≡ true
      → IsToken fresh Passed (letter ∷ plus ∷ []) after
  -- where a variation begins and ends
  opens : {fresh : Bool} {after : List ℕ} → IsToken fresh Opens (open_parenthesis ∷ []) after
  closes : {fresh : Bool} {after : List ℕ} → IsToken fresh Closes (close_parenthesis ∷ []) after
  -- a row of signs of moves and results from a digit on, and no number of a move
  written : {fresh : Bool} {digit : ℕ} {more after : List ℕ} → is_digit digit ≡ true
      → IsRow written_width (digit ∷ more) after
      → (list_all is_digit (digit ∷ more) ≡ true → begins_with is_stop after ≡ false)
      → IsToken fresh Written (digit ∷ more) after
  -- the result that is written as a star
  open_result : {fresh : Bool} {after : List ℕ} → IsToken fresh Written (star ∷ []) after
  -- a comment that no brace closes
  unclosed : {fresh : Bool} {inside : List ℕ} → list_all is_inside inside ≡ true
      → IsToken fresh CutOff (open_brace ∷ inside) []
  -- a mark without its number
  no_number : {fresh : Bool} {after : List ℕ} → begins_with is_digit after ≡ false
      → IsToken fresh CutOff (dollar ∷ []) after
  -- a byte that begins no token
  unknown : {fresh : Bool} {byte : ℕ} {after : List ℕ} → begins_token fresh byte after ≡ false
      → is_between byte after ≡ false
      → IsToken fresh Unknown (byte ∷ []) after

-- the kind and the bytes of a token, and the place of the first of them in the text, counted from 1
pub record Token : Type 0 where
  pub what : TokenKind
  pub text : List ℕ
  pub place : ℕ

-- these are the tokens of bytes up to the rest of them, by the place of the first byte, and by whether it stands at the
-- beginning of a line: blanks may stand before, between and after them
pub data AreTokens : ℕ → Bool → (text : List ℕ) → List Token → (rest : List ℕ) → Type 0 where
  nothing : {place : ℕ} {fresh : Bool} {rest : List ℕ} → AreTokens place fresh rest [] rest
  blank : {place : ℕ} {fresh : Bool} {byte : ℕ} {bytes rest : List ℕ} {tokens : List Token}
      → is_between byte bytes ≡ true → AreTokens (place + 1) (ends_line byte) bytes tokens rest
      → AreTokens place fresh (byte ∷ bytes) tokens rest
  token : {place : ℕ} {fresh : Bool} {what : TokenKind} {rest : List ℕ} (text after : List ℕ) {tokens : List Token}
      → IsToken fresh what text after → AreTokens (place + length text) false after tokens rest
      → AreTokens place fresh (text ++ after) ((record { what = what; text = text; place = place }) ∷ tokens) rest
