-- The tokens of a FEN text: letters, runs of digits and signs, with blanks before, between and after them.
use Rattle.std.specs.Prelude.{◌≡◌, ℕ, ◌+◌, ◌-◌, ◌*◌, ◌==◌, ◌&&◌, ◌||◌, nat_le, Bool, false, if◌then◌else◌, Option, Some}
use Rattle.std.specs.Prelude.{None, List, [], ◌∷◌, true}
use Rattle.dw_board.specs.Geometry.{Geometry, squares}
use Rattle.dw_board.specs.declared.piece.Side.{Side}
use Rattle.dw_board.specs.declared.piece.Side.TheVariants.{White, Black}

-- the bytes of a token, and the place of the first of them in the text, counted from 1
pub record Token : Type 0 where
  pub text : List ℕ
  pub place : ℕ

-- the signs of a FEN text, and its blanks
abbrev pub colon : ℕ
colon = 58

abbrev pub comma : ℕ
comma = 44

abbrev pub dash : ℕ
dash = 45

abbrev pub full_stop : ℕ
full_stop = 46

abbrev pub blank : ℕ
blank = 32

abbrev pub tab : ℕ
tab = 9

-- a space or a tab
abbrev pub is_blank : ℕ → Bool
is_blank byte = (byte == blank) || (byte == tab)

-- a digit
abbrev pub is_digit : ℕ → Bool
is_digit byte = nat_le 48 byte && nat_le byte 57

-- these bytes are digits
abbrev pub AreDigits : List ℕ → Type 0
AreDigits [] = Unit {0}
AreDigits (byte ∷ bytes) = (is_digit byte ≡ true) × AreDigits bytes

-- the first byte is a digit
abbrev pub begins_with_digit : List ℕ → Bool
begins_with_digit [] = false
begins_with_digit (byte ∷ bytes) = is_digit byte

-- a digit goes onto the front of the run of digits after it
abbrev pub onto_run : ℕ → ℕ → List Token → List Token
onto_run digit place [] = []
onto_run digit place (run ∷ tokens) = record { text = digit ∷ run.text; place = place } ∷ tokens

-- tokens with a byte in front of them: a blank makes none, a digit before another one joins its run, and each other
-- byte is a token of its own
abbrev pub with_byte : ℕ → ℕ → Bool → List Token → List Token
with_byte byte place joins tokens =
    if is_blank byte then tokens
    else (if is_digit byte && joins then onto_run byte place tokens else record {
      text = byte ∷ [];
      place = place;
    } ∷ tokens)

-- the tokens of bytes; the first byte has this place
abbrev pub tokens_from : ℕ → List ℕ → List Token
tokens_from place [] = []
tokens_from place (byte ∷ bytes) = with_byte byte place (begins_with_digit bytes) (tokens_from (place + 1) bytes)

-- ---- what a token says

-- a token is this byte alone
abbrev pub is_sign : ℕ → List ℕ → Bool
is_sign sign [] = false
is_sign sign (byte ∷ []) = byte == sign
is_sign sign (byte ∷ more ∷ bytes) = false

-- W or B, in either case
abbrev pub side_named : List ℕ → Option Side
side_named text =
    if is_sign 87 text || is_sign 119 text then Some White
    else (if is_sign 66 text || is_sign 98 text then Some Black else None)

-- K, in either case
abbrev pub is_king_letter : List ℕ → Bool
is_king_letter text = is_sign 75 text || is_sign 107 text

-- the number of a square, if it is a number and the board has such a square
abbrev pub square_numbered : Geometry → Bool → ℕ → Option ℕ
square_numbered g is_number n = if is_number && (nat_le 1 n && nat_le n (squares g)) then Some n else None

-- a run of one or two digits that gives the number of a square
abbrev pub number_named : Geometry → List ℕ → Option ℕ
number_named g [] = None
number_named g (d ∷ []) = square_numbered g (is_digit d) (d - 48)
number_named g (d ∷ e ∷ []) = square_numbered g (is_digit d && is_digit e) (10 * (d - 48) + (e - 48))
number_named g (d ∷ e ∷ f ∷ bytes) = None

-- ---- what stands first in a row of tokens

-- the place of the first token, or that of the text's end if there is none
abbrev pub place_of : List Token → ℕ → ℕ
place_of [] end = end
place_of (t ∷ tokens) end = t.place

-- whether the first token passes a test
abbrev pub first_is : (List ℕ → Bool) → List Token → Bool
first_is test [] = false
first_is test (t ∷ tokens) = test t.text

-- the square or side that the first token names
abbrev pub first_named : {A : Type 0} → (List ℕ → Option A) → List Token → Option A
first_named name [] = None
first_named name (t ∷ tokens) = name t.text

-- no token is left
abbrev pub is_empty : List Token → Bool
is_empty [] = true
is_empty (t ∷ tokens) = false

-- the end, a colon or a stop is next
abbrev pub no_item : List Token → Bool
no_item tokens = is_empty tokens || first_is (is_sign colon) tokens || first_is (is_sign full_stop) tokens
