-- Laws of tokens, for every board.
use Rattle.std.specs.Prelude.{◌≡◌, ℕ, ◌%◌, ◌≤◌, ◌⊎◌, ◌↔◌, true, None, Ok, List, ◌∷◌, length}
use Rattle.std.specs.FinSet as set
use Rattle.hex.specs.Hex.{decode_of}
use Rattle.dw_board.specs.Geometry.{Geometry, IsBoard, OnBoard}
use Rattle.dw_moves.specs.Moves.{Move}
use Rattle.dw_board.specs.Lists.{Member}
use Rattle.dw_list.specs.Tokens.{IsToken, token_of, token_fault}

-- a move from, to and over squares of the board
pub record IsOnBoard (g : Geometry) (m : Move) : Type 0 where
  pub from : OnBoard g m.from
  pub to : OnBoard g m.to
  pub taken : (s : ℕ) → set.contains m.taken s ≡ true → OnBoard g s

-- the written token of a line is a token of it
abbrev pub WrittenIsToken : Type 0
WrittenIsToken = (g : Geometry) → IsBoard g → (g.rows ≡ 10) ⊎ (g.rows ≡ 8) → (line : List Move) →
    length line % 2 ≡ 1 → length line ≤ 39 → ((m : Move) → Member m line → IsOnBoard g m) →
    IsToken g (token_of g line) line

-- a text is a token of at most one line
abbrev pub OneLine : Type 0
OneLine = (g : Geometry) (text : List ℕ) (line other : List Move) →
    IsToken g text line → IsToken g text other → line ≡ other

-- a token has no fault
abbrev pub TokensHaveNoFault : Type 0
TokensHaveNoFault = (g : Geometry) (text : List ℕ) (line : List Move) → IsToken g text line → token_fault g text ≡ None

-- on the board of 10 rows a token of version 1 means the same as the token of version 2 with the same moves
abbrev pub Version1Keeps : Type 0
Version1Keeps = (g : Geometry) → g.rows ≡ 10 → (old new counted : List ℕ) →
    decode_of old ≡ Ok (1 ∷ counted) → decode_of new ≡ Ok (2 ∷ 10 ∷ counted) →
    (line : List Move) → IsToken g old line ↔ IsToken g new line
