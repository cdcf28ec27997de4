-- A FEN text, read token by token: the position that it names, or its earliest fault.
use Rattle.std.specs.Prelude.{ℕ, zero, suc, ◌+◌, ◌-◌, ◌||◌, nat_lt, Bool, true, false, if◌then◌else◌, Option, Some}
use Rattle.std.specs.Prelude.{None, Result, Ok, Err, List, [], ◌∷◌, length}
use Rattle.dw_board.specs.Geometry.{Geometry}
use Rattle.dw_board.specs.Placement.{Placement, empty, placed, put_fault, same_side}
use Rattle.dw_board.specs.FenTokens.{Token, tokens_from, colon, comma, dash, full_stop, is_sign, side_named}
use Rattle.dw_board.specs.FenTokens.{is_king_letter, number_named}
use Rattle.dw_board.specs.FenFaults.{put_kind}
use Rattle.dw_board.specs.declared.piece.Side.{Side}
use Rattle.dw_board.specs.declared.piece.Kind.TheVariants.{Man, King}
use Rattle.dw_board.specs.declared.piece.Piece.{Piece}
use Rattle.dw_board.specs.declared.piece.PutFault.{PutFault}
use Rattle.dw_board.specs.declared.fen.fault.FenFault.{FenFault}
use Rattle.dw_board.specs.declared.fen.fault.FenFaultKind.{FenFaultKind}
use Rattle.dw_board.specs.declared.fen.fault.FenFaultKind.TheVariants.{Turn, Colon, Colour, Number, SameColour, Rest}
use Rattle.dw_board.specs.declared.fen.fault.FenFaultKind.TheVariants.{TooLong, RangeBackwards}

abbrev pub fault : {A : Type 0} → FenFaultKind → ℕ → Result A FenFault
fault what place = Err (record { what = what; place = place })

infixl 10 ◌>>=◌
abbrev pub ◌>>=◌ : {A B : Type 0} → Result A FenFault → (A → Result B FenFault) → Result B FenFault
(Ok x) >>= f = f x
(Err e) >>= f = Err e

-- a partly read list: its colour, whether it is the second one, and the pieces on the board
pub record Listing : Type 0 where
  pub side : Side
  pub is_second : Bool
  pub placed : Placement

-- an item as far as it is read: whether K stands before it, its first number, and the place of that
pub record Item : Type 0 where
  pub is_king : Bool
  pub from : ℕ
  pub place : ℕ

-- the last token, and so the tokens that may follow
pub data Stage : Type 0 where
  Start : Stage
  AfterTurn : Side → Stage
  AfterColon : Option Side → Placement → Stage
  AfterColour : Listing → Stage
  AfterComma : Listing → Stage
  AfterKing : Listing → Stage
  AfterNumber : Listing → Item → Stage
  AfterDash : Listing → Item → Stage
  AfterItem : Listing → Stage
  AfterStop : Placement → Stage
  AfterLists : Placement → Stage

-- the result for the other squares, unless the first one could not be set
abbrev pub then_set : Option PutFault → ℕ → Result Placement FenFault → Result Placement FenFault
then_set None place others = others
then_set (Some why) place others = fault (put_kind why) place

-- a number of squares, from one on, get this piece one by one, up to the first fault
abbrev pub set_squares : Geometry → Piece → ℕ → ℕ → ℕ → Placement → Result Placement FenFault
set_squares g piece place from zero p = Ok p
set_squares g piece place from (suc more) p =
    then_set (put_fault g p from piece) place (set_squares g piece place (from + 1) more (placed p from (Some piece)))

abbrev pub piece_of : Listing → Item → Piece
piece_of list item = record { side = list.side; kind = if item.is_king then King else Man }

-- the item's squares, up to this one, are set; each of their faults has the place of the item's first number
abbrev pub with_item : Geometry → Listing → Item → ℕ → Result Listing FenFault
with_item g list item to =
    set_squares g (piece_of list item) item.place item.from (to + 1 - item.from) list.placed >>= λ p.
    Ok (record list { placed = p })

-- the stage after a token, or this fault if the token does not name anything
abbrev pub if_named : {A : Type 0} → Option A → FenFaultKind → ℕ → (A → Result Stage FenFault) → Result Stage FenFault
if_named None what place next = fault what place
if_named (Some x) what place next = next x

-- the stage after the colour of a list; a second list has the other colour
abbrev pub list_begun : Option Side → Placement → ℕ → Side → Result Stage FenFault
list_begun None p place side = Ok (AfterColour (record { side = side; is_second = false; placed = p }))
list_begun (Some first) p place side =
    if same_side first side then fault SameColour place
    else Ok (AfterColour (record { side = side; is_second = true; placed = p }))

-- an item begins with K or a number
abbrev pub item_begun : Geometry → Listing → Token → Result Stage FenFault
item_begun g list t =
    if is_king_letter t.text then Ok (AfterKing list)
    else if_named (number_named g t.text) Number t.place
    (λ n. Ok (AfterNumber list (record { is_king = false; from = n; place = t.place })))

-- after an item a comma, a colon or a stop may stand
abbrev pub item_ended : Listing → Token → Result Stage FenFault
item_ended list t =
    if is_sign comma t.text then Ok (AfterComma list)
    else (if is_sign colon t.text
    then Ok (if list.is_second then AfterLists list.placed else AfterColon (Some list.side) list.placed)
    else (if is_sign full_stop t.text then Ok (AfterStop list.placed) else fault Rest t.place))

-- the stage after the next token, or the fault of that token
unfoldable pub next_stage : Geometry → Stage → Token → Result Stage FenFault
next_stage g Start t = if_named (side_named t.text) Turn t.place (λ side. Ok (AfterTurn side))
next_stage g (AfterTurn turn) t =
    if is_sign colon t.text then Ok (AfterColon None (empty turn)) else fault Colon t.place
next_stage g (AfterColon first p) t = if_named (side_named t.text) Colour t.place (list_begun first p t.place)
next_stage g (AfterColour list) t =
    if is_sign colon t.text || is_sign full_stop t.text then item_ended list t else item_begun g list t
next_stage g (AfterComma list) t = item_begun g list t
next_stage g (AfterKing list) t =
    if_named (number_named g t.text) Number t.place
    (λ n. Ok (AfterNumber list (record { is_king = true; from = n; place = t.place })))
next_stage g (AfterNumber list item) t =
    if is_sign dash t.text then Ok (AfterDash list item)
    else with_item g list item item.from >>= λ all. item_ended all t
next_stage g (AfterDash list item) t =
    if_named (number_named g t.text) Number t.place (λ to.
    if nat_lt to item.from then fault RangeBackwards t.place
    else with_item g list item to >>= λ all. Ok (AfterItem all))
next_stage g (AfterItem list) t = item_ended list t
next_stage g (AfterStop p) t = fault Rest t.place
next_stage g (AfterLists p) t = Ok (AfterLists p)

-- the position, if the text may end here, or the fault at the end
unfoldable pub at_end : Geometry → ℕ → Stage → Result Placement FenFault
at_end g place Start = fault Turn place
at_end g place (AfterTurn turn) = fault Colon place
at_end g place (AfterColon first p) = fault Colour place
at_end g place (AfterColour list) = Ok list.placed
at_end g place (AfterComma list) = fault Number place
at_end g place (AfterKing list) = fault Number place
at_end g place (AfterNumber list item) = with_item g list item item.from >>= λ all. Ok all.placed
at_end g place (AfterDash list item) = fault Number place
at_end g place (AfterItem list) = Ok list.placed
at_end g place (AfterStop p) = Ok p
at_end g place (AfterLists p) = Ok p

-- the position of the tokens from this stage on; the text's end has this place
unfoldable pub read_from : Geometry → ℕ → Stage → List Token → Result Placement FenFault
read_from g end stage [] = at_end g end stage
read_from g end stage (t ∷ tokens) = next_stage g stage t >>= λ next. read_from g end next tokens

-- the position of a text of at most 1,024 bytes, or its fault
unfoldable pub short_fen : Geometry → List ℕ → Result Placement FenFault
short_fen g text = read_from g (length text + 1) Start (tokens_from 1 text)

-- the position that a text names, or its earliest fault; a text that is too long has that fault before any other
abbrev pub fen : Geometry → List ℕ → Result Placement FenFault
fen g text = if nat_lt 1024 (length text) then fault TooLong 1025 else short_fen g text
