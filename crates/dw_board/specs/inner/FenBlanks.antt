-- Where a FEN text goes on: not at a blank.
use Rattle.std.specs.Prelude.{◌≡◌, ℕ, Bool, false, List, [], ◌∷◌}
use Rattle.dw_board.specs.FenTokens.{is_blank, is_digit}

abbrev pub begins_with_blank : List ℕ → Bool
begins_with_blank [] = false
begins_with_blank (byte ∷ bytes) = is_blank byte

-- a byte that is a token by itself
abbrev pub IsSignByte : ℕ → Type 0
IsSignByte byte = (is_blank byte ≡ false) × (is_digit byte ≡ false)
