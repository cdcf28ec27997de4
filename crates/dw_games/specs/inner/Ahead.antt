-- The bytes that a reader of tokens has still to read.
use Rattle.std.specs.Prelude.{ℕ, ◌+◌, List, length, drop}
use Rattle.dw_games.specs.Tokens as of
use Rattle.dw_games.specs.declared.tokens.Token.{Token}
use Rattle.dw_games.specs.declared.tokens.Tokens.{Tokens}

-- the bytes still to be read
abbrev pub bytes_ahead : Tokens → List ℕ
bytes_ahead t = drop t.at t.text.now

-- these are the tokens still to be read, up to the rest of the bytes
abbrev pub AreAhead : Tokens → List of.Token → List ℕ → Type 0
AreAhead t tokens rest = of.AreTokens (t.at + 1) t.fresh (bytes_ahead t) tokens rest

-- the place after the text
abbrev pub end_of : Tokens → ℕ
end_of t = length t.text.now + 1

-- a token, with its bytes in place of a reference to them
abbrev pub token_value : Token → of.Token
token_value t = record { what = t.what; text = t.text.now; place = t.place }
