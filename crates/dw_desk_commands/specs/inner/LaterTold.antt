-- The texts of later wins, as values of the definitions.
use Rattle.std.specs.Prelude.{ℕ, Option, List, map, option_map}
use Rattle.std.proofs.Common.{Global, String, Vec}
use Rattle.std.specs.String.{string_bytes}

abbrev pub later_told : Option (Vec (String Global × ℕ) Global) → Option (List (List ℕ × ℕ))
later_told later = option_map (λ texts. map (λ pair. (string_bytes pair.0, pair.1)) texts.items) later
