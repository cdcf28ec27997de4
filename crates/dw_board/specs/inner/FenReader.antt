-- What the reader of a FEN text holds: the tokens still to be read.
use Rattle.std.specs.Prelude.{ℕ, ◌+◌, Bool, true, false, List, [], ◌∷◌, length, drop}
use Rattle.dw_board.specs.FenTokens.{Token, tokens_from}
use Rattle.dw_board.specs.declared.fen.tokens.Tokens.{Tokens}

-- the tokens still to be read
abbrev pub tokens_of : Tokens → List Token
tokens_of t = tokens_from (t.at + 1) (drop t.at t.text.now)

-- the place after the text
abbrev pub end_of : Tokens → ℕ
end_of t = length t.text.now + 1

abbrev pub behind : List Token → List Token
behind [] = []
behind (t ∷ tokens) = tokens

-- the tokens left after the first one was taken, or not
abbrev pub left_of : Bool → List Token → List Token
left_of true tokens = behind tokens
left_of false tokens = tokens
