-- The state of a reader of a written line.
use Rattle.std.specs.Prelude.{◌≡◌, ◌≢◌, ◌⊎◌, ◌<◌, ◌+◌, ◌%◌, ℕ, Bool, true, false, Result, Ok, Err, List, [], ◌∷◌, ◌++◌}
use Rattle.std.specs.Prelude.{length}
use Rattle.dw_board.specs.Geometry.{Geometry}
use Rattle.dw_board.specs.Placement.{Placement}
use Rattle.dw_moves.specs.Moves.{Move}
use Rattle.dw_games.specs.Tokens.{Token}
use Rattle.dw_games.specs.Play.{IsResult}
use Rattle.dw_games.specs.Lines.{LineFaultAt}
use Rattle.dw_games.specs.inner.Ahead.{AreAhead}
use Rattle.dw_games.specs.inner.Reading.{HasRead, ReadOn}
use Rattle.dw_games.specs.declared.tokens.Tokens.{Tokens}
use Rattle.dw_games.specs.declared.tokens.TokenKind.TheVariants.{Opens}
use Rattle.dw_games.specs.declared.fault.MovetextFaultKind.TheVariants.{Empty}
use Rattle.dw_games.specs.declared.fault.MovetextFault.{MovetextFault}
use Rattle.dw_games.specs.declared.fault.MovetextFault.TheVariants as text
use Rattle.dw_games.specs.declared.fault.LineFaultKind.TheVariants.{Movetext, Even}
use Rattle.dw_games.specs.declared.fault.LineFault.{LineFault}
use Rattle.dw_games.specs.declared.fault.LineFault.TheVariants.{Refused}
use Rattle.dw_games.specs.declared.reader.Reader.{Reader}

-- no token begins a variation
abbrev pub NoneOpens : List Token → Type 0
NoneOpens [] = Unit {0}
NoneOpens (t ∷ ts) = (t.what ≢ Opens) × NoneOpens ts

-- a reader has read these tokens, none of which begins a variation
pub record HasReadLine {B : Type 0} (g : Geometry) (p : Placement) (ts : List Token) (reader : Reader B) : Type 0 where
  pub read : HasRead g p ts reader
  pub none_opens : NoneOpens ts

-- so far some tokens were read
abbrev pub LineHasGoneOn : {B : Type 0} → Geometry → Placement → Tokens → Tokens → Reader B → Type 0
LineHasGoneOn g p old now reader = (ts : List Token) × HasReadLine g p ts reader × ReadOn old ts now

-- all tokens were read, or those up to and with the result, or one is at fault
abbrev pub LineHasEnded : {B : Type 0} → Geometry → Placement → Tokens → Tokens → Reader B → Result Bool MovetextFault
    → Type 0
LineHasEnded g p old now reader (Ok false) = (ts : List Token) × HasReadLine g p ts reader × AreAhead old ts []
LineHasEnded g p old now reader (Ok true) = (ts : List Token) × (t : Token) × HasReadLine g p ts reader × IsResult t
    × ReadOn old (ts ++ t ∷ []) now
LineHasEnded g p old now reader (Err (text.Refused what place)) = (ts : List Token) × (t : Token) × (rest : List ℕ)
    × AreAhead old (ts ++ t ∷ []) rest × LineFaultAt g p ts t what × (place ≡ t.place)
LineHasEnded g p old now reader (Err text.Memory) = Unit {0}

-- the fault of moves that are none or even in number, after a text of this many bytes
abbrev pub IsNoOddNumber : List Move → ℕ → LineFault → Type 0
IsNoOddNumber moves bytes why = ((moves ≡ []) × (why ≡ Refused (Movetext Empty) (bytes + 1)))
    ⊎ ((0 < length moves) × (length moves % 2 ≡ 0) × (why ≡ Refused Even (bytes + 1)))
