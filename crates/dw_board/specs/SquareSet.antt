-- Sets of squares, and the padded words that hold them: square s is the bit `bit g s`.
use Rattle.std.proofs.Common.{◌≡◌, ℕ, suc, zero, ◌+◌, ◌/◌, ◌%◌, ◌^◌, Bool, true, cond, ◌&&◌, eqb, leb, Option, Some}
use Rattle.std.proofs.Common.{None, is_some, bit_or}
use Rattle.std.specs.Int.{bit_at}
use Rattle.std.specs.FinSet as set
use Rattle.dw_board.specs.Geometry.{Geometry, IsBoard, squares, OnBoard, bit, square_of, Squares}

-- whether a bit of a word is set
abbrev pub is_set : ℕ → ℕ → Bool
is_set w x = eqb (bit_at w x) 1

-- the square of a bit; the bit after each two rows belongs to none
abbrev pub square_at : Geometry → ℕ → Option ℕ
square_at g x = cond (leb (x + 1) (squares g + g.rows / 2) && leb (x % (g.rows + 1) + 1) g.rows)
    (Some (square_of g x)) None

-- the squares up to n whose bit is set
unfoldable pub members_below : Geometry → ℕ → ℕ → Squares
members_below g w zero = set.empty
members_below g w (suc n) = cond (is_set w (bit g (suc n))) (set.insert (members_below g w n) (suc n))
    (members_below g w n)

-- the squares of a word
unfoldable pub squares_of : Geometry → ℕ → Squares
squares_of g w = members_below g w (squares g)

-- the word of a set's squares up to n
unfoldable pub word_below : Geometry → Squares → ℕ → ℕ
word_below g v zero = 0
word_below g v (suc n) = bit_or (cond (set.contains v (suc n)) (2 ^ bit g (suc n)) 0) (word_below g v n)

-- the word of a set
unfoldable pub word_of : Geometry → Squares → ℕ
word_of g v = word_below g v (squares g)

-- each bit that is set belongs to a square
abbrev pub OnlySquares : Geometry → ℕ → Type 0
OnlySquares g w = (x : ℕ) → bit_at w x ≡ 1 → is_some (square_at g x) ≡ true

-- the word of all squares
pub record WholeBoard (g : Geometry) (m : ℕ) : Type 0 where
  pub only : OnlySquares g m
  pub all : (s : ℕ) → OnBoard g s → is_set m (bit g s) ≡ true

-- a word of squares; it names the board's laws too, since a model sees no laws of its parameter
pub record IsWord (g : Geometry) (w : ℕ) : Type 0 where
  pub board : IsBoard g
  pub only : OnlySquares g w
