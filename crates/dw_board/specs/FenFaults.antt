-- The earliest fault of a FEN text, by the grammar: a token that must follow the tokens before, and does not.
use Rattle.std.specs.Prelude.{◌≡◌, ◌≢◌, ℕ, ◌+◌, ◌≤◌, ◌<◌, Bool, true, false, Option, Some, None, List, [], ◌∷◌, ◌++◌}
use Rattle.std.specs.Prelude.{length}
use Rattle.dw_board.specs.Geometry.{Geometry}
use Rattle.dw_board.specs.Placement.{Placement, empty, put_fault}
use Rattle.dw_board.specs.FenTokens.{Token, tokens_from, colon, comma, dash, full_stop, is_sign, side_named}
use Rattle.dw_board.specs.FenTokens.{is_king_letter, number_named, first_is, first_named, is_empty, no_item, place_of}
use Rattle.dw_board.specs.FenGrammar.{texts, Placing, IsRange, IsList, named, all_named, Sets}
use Rattle.dw_board.specs.declared.piece.Side.{Side}
use Rattle.dw_board.specs.declared.piece.Piece.{Piece}
use Rattle.dw_board.specs.declared.piece.PutFault.{PutFault}
use Rattle.dw_board.specs.declared.piece.PutFault.TheVariants as put
use Rattle.dw_board.specs.declared.fen.fault.FenFault.{FenFault}
use Rattle.dw_board.specs.declared.fen.fault.FenFaultKind.{FenFaultKind}
use Rattle.dw_board.specs.declared.fen.fault.FenFaultKind.TheVariants.{Turn, Colon, Colour, Number, Twice, SameColour}
use Rattle.dw_board.specs.declared.fen.fault.FenFaultKind.TheVariants.{LastRow, TooMany, Rest, TooLong, RangeBackwards}

-- the fault of a square on which a piece may not be put
abbrev pub put_kind : PutFault → FenFaultKind
put_kind put.Taken = Twice
put_kind put.LastRow = LastRow
put_kind put.TooMany = TooMany

-- a list must follow these tokens: the first one, or a second one after a first of the given colour
pub data ListNext (g : Geometry) : (before : List Token) → Option Side → Placement → Type 0 where
  first : {turn c : Token} {mover : Side} → side_named turn.text ≡ Some mover → is_sign colon c.text ≡ true
      → ListNext g (turn ∷ c ∷ []) None (empty mover)
  second : {before : List Token} (ws : List Token) (c : Token) {side : Side} {is : List Placing} {p q : Placement}
      → ListNext g before None p → IsList g (texts ws) side is → Sets g p (all_named side is) q
      → is_sign colon c.text ≡ true → ListNext g (before ++ ws ++ c ∷ []) (Some side) q

-- these tokens end with a list of this colour and these items, and leave these pieces; two lists differ in colour
pub data ListRead (g : Geometry) : List Token → Side → List Placing → Placement → Type 0 where
  listed : {before : List Token} (ws : List Token) {earlier : Option Side} {side : Side} {is : List Placing}
      {p q : Placement} → ListNext g before earlier p → IsList g (texts ws) side is → earlier ≢ Some side
      → Sets g p (all_named side is) q → ListRead g (before ++ ws) side is q

-- an item must follow: after a comma, and after a colour if neither the end nor `:` nor `.` follows
pub data ItemNext (g : Geometry) : (before after : List Token) → Side → Placement → Type 0 where
  behind_colour : {before after : List Token} {side : Side} {p : Placement}
      → ListRead g before side [] p → no_item after ≡ false → ItemNext g before after side p
  behind_comma : {before after : List Token} (c : Token) {side : Side} {i : Placing} {is : List Placing} {p : Placement}
      → ListRead g before side (i ∷ is) p → is_sign comma c.text ≡ true → ItemNext g (before ++ c ∷ []) after side p

-- a square number must follow: the first of an item, or the last of a range, after its first number and a dash; that
-- first number is given, and whether a K precedes the item
pub data NumberNext (g : Geometry) : (before after : List Token) → Option ℕ → Bool → Side → Placement → Type 0 where
  of_men : {before after : List Token} {side : Side} {p : Placement} → ItemNext g before after side p
      → first_is is_king_letter after ≡ false → NumberNext g before after None false side p
  of_kings : {before after : List Token} {k : Token} {side : Side} {p : Placement}
      → ItemNext g before (k ∷ after) side p → is_king_letter k.text ≡ true
      → NumberNext g (before ++ k ∷ []) after None true side p
  of_range : {before after : List Token} {v d : Token} {m : ℕ} {kings : Bool} {side : Side} {p : Placement}
      → NumberNext g before (v ∷ d ∷ after) None kings side p → number_named g v.text ≡ Some m
      → is_sign dash d.text ≡ true → NumberNext g (before ++ v ∷ d ∷ []) after (Some m) kings side p

-- the tokens ts are the numbers of an item, and the rest follows; after a single number it does not begin with a dash
pub data RangeNext (g : Geometry) : (before ts rest : List Token) → Placing → Side → Placement → Type 0 where
  whole : {before ts rest : List Token} {m n : ℕ} {kings : Bool} {side : Side} {p : Placement}
      → NumberNext g before (ts ++ rest) None kings side p → IsRange g (texts ts) m n
      → (length ts ≡ 1 → first_is (is_sign dash) rest ≡ false)
      → RangeNext g before ts rest (record { is_king = kings; from = m; to = n }) side p

-- the first token of `after` is at fault, or the text's end; `before` has the tokens before it
pub data FaultAt (g : Geometry) : (before after : List Token) → FenFaultKind → Type 0 where
  no_turn : {after : List Token} → first_named side_named after ≡ None → FaultAt g [] after Turn
  no_colon : {turn : Token} {after : List Token} {mover : Side} → side_named turn.text ≡ Some mover
      → first_is (is_sign colon) after ≡ false → FaultAt g (turn ∷ []) after Colon
  no_colour : {before after : List Token} {earlier : Option Side} {p : Placement} → ListNext g before earlier p
      → first_named side_named after ≡ None → FaultAt g before after Colour
  same_colour : {before after : List Token} {side : Side} {p : Placement} → ListNext g before (Some side) p
      → first_named side_named after ≡ Some side → FaultAt g before after SameColour
  no_number : {before after : List Token} {from : Option ℕ} {kings : Bool} {side : Side} {p : Placement}
      → NumberNext g before after from kings side p → first_named (number_named g) after ≡ None
      → FaultAt g before after Number
  backwards : {before after : List Token} {m n : ℕ} {kings : Bool} {side : Side} {p : Placement}
      → NumberNext g before after (Some m) kings side p → first_named (number_named g) after ≡ Some n → n < m
      → FaultAt g before after RangeBackwards
  not_put : {before : List Token} (ts rest : List Token) {i : Placing} {side : Side} {p : Placement} (q : Placement)
      (done left : List (ℕ × Piece)) (s : ℕ) (piece : Piece) {why : PutFault} → RangeNext g before ts rest i side p
      → named side i ≡ done ++ (s, piece) ∷ left → Sets g p done q → put_fault g q s piece ≡ Some why
      → FaultAt g before (ts ++ rest) (put_kind why)
  behind_item : {before rest : List Token} (ts : List Token) {i : Placing} {side : Side} {p : Placement} (q : Placement)
      → RangeNext g before ts rest i side p → Sets g p (named side i) q → no_item rest ≡ false
      → first_is (is_sign comma) rest ≡ false → FaultAt g (before ++ ts) rest Rest
  behind_stop : {before after : List Token} (stop : Token) {side : Side} {is : List Placing} {p : Placement}
      → ListRead g before side is p → is_sign full_stop stop.text ≡ true → is_empty after ≡ false
      → FaultAt g (before ++ stop ∷ []) after Rest

-- the earliest fault of a text, and its place; that it is too long comes before any other
pub data IsFirstFault (g : Geometry) : List ℕ → FenFault → Type 0 where
  too_long : {text : List ℕ} → 1024 < length text → IsFirstFault g text (record { what = TooLong; place = 1025 })
  fault_at : {text : List ℕ} (before after : List Token) {what : FenFaultKind} → length text ≤ 1024
      → tokens_from 1 text ≡ before ++ after → FaultAt g before after what
      → IsFirstFault g text (record { what = what; place = place_of after (length text + 1) })
