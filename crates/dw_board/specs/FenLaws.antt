-- Laws of FEN texts, for every board.
use Rattle.std.specs.Prelude.{◌≡◌, ℕ, ◌+◌, ◌-◌, ◌≤◌, Bool, true, ◌||◌, ◌⊎◌, ◌↔◌, List, [], ◌∷◌, ◌++◌, length, take}
use Rattle.std.specs.Prelude.{Some, Ok, Err}
use Rattle.dw_board.specs.Geometry.{Geometry, IsBoard}
use Rattle.dw_board.specs.Placement.{Placement, IsPosition}
use Rattle.dw_board.specs.FenTokens.{Token, tokens_from, colon, comma, dash, is_sign, side_named, is_king_letter}
use Rattle.dw_board.specs.Fen.{fen}
use Rattle.dw_board.specs.FenGrammar.{texts, IsRange, Names, Fen}
use Rattle.dw_board.specs.FenFaults.{IsFirstFault}
use Rattle.dw_board.specs.FenText.{written}
use Rattle.dw_board.specs.declared.piece.Side.{Side}
use Rattle.dw_board.specs.declared.fen.fault.FenFault.{FenFault}

-- reading a text gives a position exactly if the grammar gives it that position
abbrev pub ReadingIsGrammar : Type 0
ReadingIsGrammar = (g : Geometry) (text : List ℕ) (p : Placement) → (fen g text ≡ Ok p) ↔ Fen g text p

-- reading a text gives a fault exactly if this is its earliest one by the grammar
abbrev pub FaultIsGrammar : Type 0
FaultIsGrammar =
    (g : Geometry) (text : List ℕ) (fault : FenFault) → (fen g text ≡ Err fault) ↔ IsFirstFault g text fault

-- the text written for a position names that position in the grammar
abbrev pub WrittenIsFen : Type 0
WrittenIsFen = (g : Geometry) → IsBoard g → (p : Placement) → IsPosition g p.cells → Fen g (written g p) p

-- reading the text written for a position gives that position again
abbrev pub WrittenIsRead : Type 0
WrittenIsRead = (g : Geometry) → IsBoard g → (p : Placement) → IsPosition g p.cells → fen g (written g p) ≡ Ok p

-- a text names at most one position
abbrev pub NamesOne : Type 0
NamesOne = (g : Geometry) (text : List ℕ) (p q : Placement) → Fen g text p → Fen g text q → p ≡ q

-- this text names a position and has no fault
pub record IsFen (g : Geometry) (text : List ℕ) : Type 0 where
  pub position : Placement
  pub names : Fen g text position
  pub no_fault : (fault : FenFault) → IsFirstFault g text fault → ⊥

-- this text has a fault and names no position
pub record IsFaulty (g : Geometry) (text : List ℕ) : Type 0 where
  pub fault : FenFault
  pub first : IsFirstFault g text fault
  pub names_none : (p : Placement) → Fen g text p → ⊥

-- a text either names a position or has an earliest fault, never both
abbrev pub EitherFenOrFaulty : Type 0
EitherFenOrFaulty = (g : Geometry) (text : List ℕ) → IsFen g text ⊎ IsFaulty g text

-- no words that begin with those of these tokens name a position
abbrev pub LeadNowhere : Geometry → List Token → Type 0
LeadNowhere g tokens = (more : List (List ℕ)) (p : Placement) → Names g (texts tokens ++ more) p → ⊥

-- a colon, a comma, a dash or K, after which something may be missing
abbrev pub asks_more : List ℕ → Bool
asks_more w = is_sign colon w || (is_sign comma w || (is_sign dash w || is_king_letter w))

-- a text that ends too soon has no token, or the turn alone, or a last token that needs another
pub data EndsTooSoon : List Token → Type 0 where
  no_token : EndsTooSoon []
  turn_alone : (turn : Token) (side : Side) → side_named turn.text ≡ Some side → EndsTooSoon (turn ∷ [])
  open_end : (before : List Token) (last : Token) → asks_more last.text ≡ true → EndsTooSoon (before ++ last ∷ [])

-- a fault stands at the end of these tokens, if they end too soon; or at a token or the first number of a range, if the
-- tokens up to and with that token or range lead nowhere
pub data StandsAt : Geometry → List Token → (end place : ℕ) → Type 0 where
  at_text_end : {g : Geometry} {tokens : List Token} {end : ℕ} → EndsTooSoon tokens → StandsAt g tokens end end
  at_token : {g : Geometry} {end : ℕ} (before : List Token) (t : Token) (rest : List Token)
      → LeadNowhere g (before ++ t ∷ []) → StandsAt g (before ++ t ∷ rest) end t.place
  at_range : {g : Geometry} {end m n : ℕ} (before : List Token) (from dash to : Token) (rest : List Token)
      → IsRange g (from.text ∷ dash.text ∷ to.text ∷ []) m n → LeadNowhere g (before ++ from ∷ dash ∷ to ∷ [])
      → StandsAt g (before ++ from ∷ dash ∷ to ∷ rest) end from.place

-- at its earliest fault a text of at most 1,024 bytes ends too soon or leads nowhere
abbrev pub NoneGoesOn : Type 0
NoneGoesOn = (g : Geometry) (text : List ℕ) (fault : FenFault) → length text ≤ 1024 → IsFirstFault g text fault
    → StandsAt g (tokens_from 1 text) (length text + 1) fault.place

-- cut off before its earliest fault, such a text has no fault but at its end: it names a position or ends too soon
abbrev pub NoneBefore : Type 0
NoneBefore = (g : Geometry) (text : List ℕ) (fault earlier : FenFault) → length text ≤ 1024 → IsFirstFault g text fault
    → IsFirstFault g (take (fault.place - 1) text) earlier → earlier.place ≡ fault.place
