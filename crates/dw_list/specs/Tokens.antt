-- Tokens: lines as hexadecimal text.
use Rattle.std.specs.Prelude.{◌≡◌, ℕ, ◌+◌, ◌*◌, ◌%◌, ◌^◌, ◌≤◌, ◌⊎◌, true, ◌&&◌, ◌||◌, ◌==◌, nat_le, nat_lt, Bool, cond}
use Rattle.std.specs.Prelude.{if◌then◌else◌, Option, Some, None, Result, Ok, Err, List, [], ◌∷◌, ◌++◌, length, take}
use Rattle.std.specs.Prelude.{drop, slice_index, bit_or}
use Rattle.std.proofs.Common.{zero, suc}
use Rattle.std.specs.Int.{w64, to_be_bytes, from_be_bytes}
use Rattle.std.specs.FinSet as set
use Rattle.hex.specs.Hex.{decode_of, encode_lower}
use Rattle.hex.specs.declared.error.FromHexError.{FromHexError}
use Rattle.dw_board.specs.Geometry.{Geometry, squares, OnBoard, is_square, Squares}
use Rattle.dw_board.specs.SquareSet.{is_set}
use Rattle.dw_moves.specs.Moves.{Move}
use Rattle.dw_list.specs.declared.tokens.TokenFault.{TokenFault}
use Rattle.dw_list.specs.declared.tokens.TokenFault.TheVariants.{NotHex, Version, Length, Square, Taken, Board}

-- the bit s - 1 of the number is set exactly if the square s is in the set, and the set has squares of the board only
pub record IsNumberOf (g : Geometry) (v : Squares) (number : ℕ) : Type 0 where
  pub bits : (x : ℕ) → is_set number x ≡ set.contains v (x + 1)
  pub only : (s : ℕ) → set.contains v s ≡ true → OnBoard g s

-- the number after the two squares of a move, of eight bytes, big endian
unfoldable pub number_in : List ℕ → ℕ
number_in bytes = from_be_bytes w64 (drop 2 bytes)

-- the ten bytes of a move: from, to, and the number of the squares taken
pub record IsMove (g : Geometry) (m : Move) (bytes : List ℕ) : Type 0 where
  pub ten : length bytes ≡ 10
  pub from : slice_index bytes 0 ≡ m.from
  pub to : slice_index bytes 1 ≡ m.to
  pub from_on : OnBoard g m.from
  pub to_on : OnBoard g m.to
  pub taken : IsNumberOf g m.taken (number_in bytes)

-- the bytes of moves, one after the other
abbrev pub AreMoves : Geometry → List Move → List ℕ → Type 0
AreMoves g [] bytes = bytes ≡ []
AreMoves g (m ∷ line) bytes = IsMove g m (take 10 bytes) × AreMoves g line (drop 10 bytes)

-- the bytes of a line: its number of moves, odd and at most 39, and its moves
pub record IsCounted (g : Geometry) (line : List Move) (bytes : List ℕ) : Type 0 where
  pub moves : List ℕ
  pub is : bytes ≡ length line ∷ moves
  pub odd : length line % 2 ≡ 1
  pub most : length line ≤ 39
  pub are : AreMoves g line moves

-- the bytes of a line in version 1, on the board of 10 rows
pub record IsVersion1 (g : Geometry) (line : List Move) (bytes : List ℕ) : Type 0 where
  pub rows : g.rows ≡ 10
  pub counted : List ℕ
  pub is : bytes ≡ 1 ∷ counted
  pub are : IsCounted g line counted

-- the bytes of a line in version 2, which name the board by its rows, 10 or 8
pub record IsVersion2 (g : Geometry) (line : List Move) (bytes : List ℕ) : Type 0 where
  pub rows : (g.rows ≡ 10) ⊎ (g.rows ≡ 8)
  pub counted : List ℕ
  pub is : bytes ≡ 2 ∷ g.rows ∷ counted
  pub are : IsCounted g line counted

-- the bytes of a line in either version
abbrev pub IsVersion : Geometry → List Move → List ℕ → Type 0
IsVersion g line bytes = IsVersion1 g line bytes ⊎ IsVersion2 g line bytes

-- a token of a line: the line's bytes in either version, in hexadecimal digits of either case
pub record IsToken (g : Geometry) (text : List ℕ) (line : List Move) : Type 0 where
  pub bytes : List ℕ
  pub digits : decode_of text ≡ Ok bytes
  pub version : IsVersion g line bytes

-- the number whose bit s - 1 is set for each square s of a set up to n
unfoldable pub number_below : Squares → ℕ → ℕ
number_below v zero = 0
number_below v (suc n) = bit_or (number_below v n) (cond (set.contains v (suc n)) (2 ^ n) 0)

-- a set of squares as one number: bit s - 1 is set for square s
unfoldable pub number_of : Geometry → Squares → ℕ
number_of g v = number_below v (squares g)

-- the ten bytes of a move: its start, its end, and the set of its taken squares as a number of eight bytes
unfoldable pub move_bytes : Geometry → Move → List ℕ
move_bytes g m = m.from ∷ m.to ∷ to_be_bytes w64 (number_of g m.taken)

-- the bytes of moves, one after another
unfoldable pub moves_bytes : Geometry → List Move → List ℕ
moves_bytes g [] = []
moves_bytes g (m ∷ line) = move_bytes g m ++ moves_bytes g line

-- the bytes of a line: the version, which is 2, the rows of the board, the number of moves, and the moves
abbrev pub line_bytes : Geometry → List Move → List ℕ
line_bytes g line = 2 ∷ g.rows ∷ length line ∷ moves_bytes g line

-- the token of a line, as it is written
abbrev pub token_of : Geometry → List Move → List ℕ
token_of g line = encode_lower (line_bytes g line)

-- the first of two faults
abbrev pub first_of : Option TokenFault → Option TokenFault → Option TokenFault
first_of (Some fault) later = Some fault
first_of None later = later

-- the first fault of the ten bytes of a move: from, to and taken in turn
abbrev pub move_fault : Geometry → List ℕ → Option TokenFault
move_fault g bytes =
    if is_square g (slice_index bytes 0) && is_square g (slice_index bytes 1)
    then (if nat_lt (number_in bytes) (2 ^ squares g) then None else Some Taken)
    else Some Square

-- the first fault of the bytes of n moves
unfoldable pub moves_fault : Geometry → ℕ → List ℕ → Option TokenFault
moves_fault g zero bytes = None
moves_fault g (suc n) bytes = first_of (move_fault g (take 10 bytes)) (moves_fault g n (drop 10 bytes))

-- this number of bytes holds n moves, and n is odd and at most 39
abbrev pub are_moves : ℕ → ℕ → Bool
are_moves n bytes = (n % 2 == 1 && nat_le n 39) && bytes == 10 * n

-- the first fault of a byte with the number of moves, and of the moves after it
unfoldable pub counted_fault : Geometry → List ℕ → Option TokenFault
counted_fault g [] = Some Length
counted_fault g (n ∷ moves) = if are_moves n (length moves) then moves_fault g n moves else Some Length

-- a byte names the board: by its rows, 10 or 8
abbrev pub names_board : Geometry → ℕ → Bool
names_board g rows = (rows == 10 || rows == 8) && rows == g.rows

-- the first fault after the byte of version 2
unfoldable pub board_fault : Geometry → List ℕ → Option TokenFault
board_fault g [] = Some Board
board_fault g (rows ∷ counted) = if names_board g rows then counted_fault g counted else Some Board

-- the first fault of bytes
unfoldable pub bytes_fault : Geometry → List ℕ → Option TokenFault
bytes_fault g [] = Some Length
bytes_fault g (version ∷ rest) =
    if version == 1 then (if g.rows == 10 then counted_fault g rest else Some Board)
    else if version == 2 then board_fault g rest
    else Some Version

-- the first fault of the decoded bytes of a text
unfoldable pub decoded_fault : Geometry → Result (List ℕ) FromHexError → Option TokenFault
decoded_fault g (Err e) = Some NotHex
decoded_fault g (Ok bytes) = bytes_fault g bytes

-- the first fault of a text, none if it is a token
unfoldable pub token_fault : Geometry → List ℕ → Option TokenFault
token_fault g text = if nat_lt 786 (length text) then Some Length else decoded_fault g (decode_of text)
