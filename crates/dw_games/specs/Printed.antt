-- The play of a movetext, as a grammar on its tokens: its lines, the parentheses in them, and all paths through it.
-- Parentheses follow a move, and their first move says what they are. A variation begins before the move that they
-- follow, and a reply begins after it. If the next move outside can be played before the reply, the reply was by-play.
-- Else the play goes on after the reply.
use Rattle.std.specs.Prelude.{◌≡◌, ◌⊎◌, ℕ, ◌==◌, ◌<◌, if◌then◌else◌, Option, Some, None, List, []}
use Rattle.std.specs.Prelude.{◌∷◌, ◌++◌, ◌+◌, length, Err}
use Rattle.std.proofs.Common.{suc}
use Rattle.dw_board.specs.Geometry.{Geometry}
use Rattle.dw_board.specs.Placement.{Placement}
use Rattle.dw_moves.specs.Moves.{Move}
use Rattle.dw_notation.specs.MoveReading.{IsRead}
use Rattle.dw_notation.specs.declared.read_move.MoveFault.TheVariants as reading
use Rattle.dw_games.specs.Tokens.{Token}
use Rattle.dw_games.specs.Play.{IsResult, IsMove, IsDefence, IsLeftOut, IsPassed, IsRefused, IsRefusedAfter, StandsFor}
use Rattle.dw_games.specs.Play.{after, beginnings_after, plain}
use Rattle.dw_games.specs.declared.tokens.TokenKind.{TokenKind}
use Rattle.dw_games.specs.declared.tokens.TokenKind.TheVariants.{Comment, Written, Opens, Closes}
use Rattle.dw_games.specs.declared.fault.MovetextFaultKind.{MovetextFaultKind}
use Rattle.dw_games.specs.declared.fault.MovetextFaultKind.TheVariants.{Ambiguous}
use Rattle.dw_games.specs.declared.movetext.TheConstants.{MAX_OPEN, MAX_PATH}

-- what a line is: a variation, as the main line too, or a reply in parentheses
pub data Kind : Type 0 where
  variation : Kind
  reply : Kind

-- A line at some place of the text. In parentheses it begins after a move, and has no move so far. Or it has moves of
-- its own after others. Its last move may be followed by a reply in parentheses of one move token, with these moves.
pub data Line : Type 0 where
  begins : (front : List Move) (last : Move) → Line
  goes_on : Kind → (before moves : List Move) → (answer : Option (List Move)) → Line

-- the main line before its first move
abbrev pub first_line : Line
first_line = goes_on variation [] [] None

-- a text names no legal move of a position, or several
abbrev pub NamesNotOne : Geometry → Placement → List ℕ → Type 0
NamesNotOne g p text = IsRead g p text (Err reading.NoSuchMove) ⊎ IsRead g p text (Err reading.Ambiguous)

-- A token goes on with a line: the line's kind, the moves before it and its own so far, and the moves that are added.
pub data Follows (g : Geometry) (p : Placement)
    : Line → Token → Kind → (before moves more : List Move) → Type 0 where
  -- the first move in parentheses is one in place of the move before them
  opens_variation : {front : List Move} {last m : Move} {t : Token} → IsMove g (after g p front) t m
      → Follows g p (begins front last) t variation front [] (m ∷ [])
  -- or it follows that move
  opens_reply : {front more : List Move} {last : Move} {t : Token}
      → IsRead g (after g p front) (plain t.text) (Err reading.NoSuchMove)
      → StandsFor g p (front ++ last ∷ []) t more
      → Follows g p (begins front last) t reply (front ++ last ∷ []) [] more
  -- no reply of one move token is before it
  alone : {kind : Kind} {before moves more : List Move} {t : Token} → StandsFor g p (before ++ moves) t more
      → Follows g p (goes_on kind before moves None) t kind before moves more
  -- the reply before it was by-play
  by_play : {kind : Kind} {before moves answer : List Move} {t : Token} {m : Move}
      → length (before ++ moves) < MAX_PATH → IsMove g (after g p (before ++ moves)) t m
      → Follows g p (goes_on kind before moves (Some answer)) t kind before moves (m ∷ [])
  -- the reply before it belongs to the line
  after_reply : {kind : Kind} {before moves answer more : List Move} {t : Token}
      → NamesNotOne g (after g p (before ++ moves)) (plain t.text)
      → StandsFor g p (before ++ (moves ++ answer)) t more
      → Follows g p (goes_on kind before moves (Some answer)) t kind before (moves ++ answer) more
  -- nothing fits after the reply, which was by-play, and the only one is left out
  left_out_again : {kind : Kind} {before moves answer : List Move} {t : Token} {only m : Move}
      {what : MovetextFaultKind}
      → IsRefusedAfter g p (before ++ (moves ++ answer)) t what → length (before ++ moves) < MAX_PATH
      → IsDefence (before ++ moves) → IsLeftOut g (after g p (before ++ moves)) t only m
      → Follows g p (goes_on kind before moves (Some answer)) t kind before moves (only ∷ m ∷ [])

-- a token of the form of a move does not go on with a line, and has a fault of this kind
pub data CannotFollow (g : Geometry) (p : Placement) : Line → Token → MovetextFaultKind → Type 0 where
  several : {front : List Move} {last : Move} {t : Token} → IsRefused g (after g p front) t reading.Ambiguous
      → CannotFollow g p (begins front last) t Ambiguous
  neither : {front : List Move} {last : Move} {t : Token} {what : MovetextFaultKind}
      → IsRead g (after g p front) (plain t.text) (Err reading.NoSuchMove)
      → IsRefusedAfter g p (front ++ last ∷ []) t what → CannotFollow g p (begins front last) t what
  not_alone : {kind : Kind} {before moves : List Move} {t : Token} {what : MovetextFaultKind}
      → IsRefusedAfter g p (before ++ moves) t what → CannotFollow g p (goes_on kind before moves None) t what
  not_behind : {kind : Kind} {before moves answer : List Move} {t : Token} {what other : MovetextFaultKind}
      → IsRefusedAfter g p (before ++ moves) t other → IsRefusedAfter g p (before ++ (moves ++ answer)) t what
      → CannotFollow g p (goes_on kind before moves (Some answer)) t what

-- how many of some tokens are moves, if none of them is a result
abbrev pub one_if_move : TokenKind → ℕ
one_if_move Written = 1
one_if_move what = 0

abbrev pub count_moves : List Token → ℕ
count_moves [] = 0
count_moves (t ∷ ts) = one_if_move t.what + count_moves ts

-- the reply that counts after a parenthesis with this number of move tokens: a variation leaves the last one
abbrev pub answer_of : Line → ℕ → Option (List Move) → Option (List Move)
answer_of (goes_on reply before moves answer) many old = if many == 1 then Some moves else None
answer_of (goes_on variation before moves answer) many old = old
answer_of (begins front last) many old = old

-- Tokens lead from one line to another: the number of parentheses that may be open in it, and all paths through it, in
-- turn. They are none, or such tokens followed by a token without effect, or by a move, or by a parenthesis.
pub data IsLine (g : Geometry) (p : Placement)
    : ℕ → Line → List Token → Line → (paths : List (List Move)) → Type 0 where
  empty : {room : ℕ} {start : Line} → IsLine g p room start [] start []
  passed : {room : ℕ} {start line : Line} {ts : List Token} {paths : List (List Move)} (t : Token)
      → IsLine g p room start ts line paths → IsPassed t.what → IsLine g p room start (ts ++ t ∷ []) line paths
  move : {room : ℕ} {start line : Line} {ts : List Token} {paths : List (List Move)} {t : Token} {kind : Kind}
      {before moves more : List Move} → IsLine g p room start ts line paths
      → Follows g p line t kind before moves more
      → IsLine g p room start (ts ++ t ∷ []) (goes_on kind before (moves ++ more) None)
      (paths ++ beginnings_after (before ++ moves) more)
  aside : {room : ℕ} {start inner : Line} {ts us : List Token} {paths others : List (List Move)} {kind : Kind}
      {before : List Move} {answer : Option (List Move)} (moves : List Move) (last : Move) (opening closing : Token)
      → IsLine g p (suc room) start ts (goes_on kind before (moves ++ last ∷ []) answer) paths → opening.what ≡ Opens
      → IsLine g p room (begins (before ++ moves) last) us inner others → closing.what ≡ Closes
      → IsLine g p (suc room) start (ts ++ opening ∷ (us ++ closing ∷ []))
      (goes_on kind before (moves ++ last ∷ []) (answer_of inner (count_moves us) answer)) (paths ++ others)

-- comments alone
abbrev pub AreComments : List Token → Type 0
AreComments [] = Unit {0}
AreComments (t ∷ ts) = (t.what ≡ Comment) × AreComments ts

-- the play that is not within parentheses, and the paths that it goes through
abbrev pub IsPlay : Geometry → Placement → List Token → List (List Move) → Type 0
IsPlay g p ts paths = (line : Line) × IsLine g p MAX_OPEN first_line ts line paths

-- the play with its result, and then comments alone
pub record IsOver (g : Geometry) (p : Placement) (ts : List Token) (paths : List (List Move)) : Type 0 where
  pub front : List Token
  pub result : Token
  pub comments : List Token
  pub played : IsPlay g p front paths
  pub is_result : IsResult result
  pub are_comments : AreComments comments
  pub joined : ts ≡ front ++ result ∷ comments
