-- The bytes of a history.
use Rattle.std.specs.Prelude.{ℕ, List, [], ◌∷◌, ◌++◌}
use Rattle.dw_notation.specs.declared.streams.history.Step.{Step, Nothing, Then'}

-- the bytes, first to last
abbrev pub bytes_of : Step → List ℕ
bytes_of Nothing = []
bytes_of (Then' _ before byte) = bytes_of before ++ byte ∷ []
