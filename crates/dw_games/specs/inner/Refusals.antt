-- The fault of a token of which no move was read, and whether it names several.
use Rattle.std.specs.Prelude.{ℕ, Bool, true, false, Result, Ok, Err}
use Rattle.dw_notation.specs.declared.read_move.MoveFault.{MoveFault}
use Rattle.dw_notation.specs.declared.read_move.MoveFault.TheVariants as reading
use Rattle.dw_games.specs.declared.fault.MovetextFault.{MovetextFault}
use Rattle.dw_games.specs.declared.fault.MovetextFault.TheVariants.{Refused, Memory}
use Rattle.dw_games.specs.declared.fault.MovetextFaultKind.TheVariants.{Token as NoToken, NoSuchMove, Ambiguous}
use Rattle.dw_games.specs.declared.fault.MovetextFaultKind.TheVariants.{TooLong}

-- the fault at a place, by whether the path has as many moves as it may, and why no move was read
abbrev pub refusal_of : ℕ → Bool → MoveFault → MovetextFault
refusal_of place full reading.Syntax = Refused NoToken place
refusal_of place true reading.NoSuchMove = Refused TooLong place
refusal_of place false reading.NoSuchMove = Refused NoSuchMove place
refusal_of place true reading.Ambiguous = Refused TooLong place
refusal_of place false reading.Ambiguous = Refused Ambiguous place
refusal_of place full reading.Memory = Memory

-- whether a text names several moves, if it does not name one
abbrev pub searched_of : MoveFault → Result Bool MovetextFault
searched_of reading.Syntax = Ok false
searched_of reading.NoSuchMove = Ok false
searched_of reading.Ambiguous = Ok true
searched_of reading.Memory = Err Memory
