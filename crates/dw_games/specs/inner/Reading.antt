-- The state of a reader of a movetext: the tree so far, and its place in the lines that are open.
use Rattle.std.specs.Prelude.{◌≡◌, ◌≢◌, ◌⊎◌, ◌<◌, ℕ, Bool, true, false, Option, Some, None, Result, Ok, Err, List, []}
use Rattle.std.specs.Prelude.{◌∷◌, ◌++◌, ◌+◌, ◌==◌, if◌then◌else◌, length}
use Rattle.std.proofs.Common.{suc}
use Rattle.dw_board.specs.Geometry.{Geometry}
use Rattle.dw_board.specs.Placement.{Placement}
use Rattle.dw_board.specs.Lists.{Member}
use Rattle.dw_moves.specs.Moves.{Legal, Move, play}
use Rattle.dw_notation.specs.MoveReading.{IsRead}
use Rattle.dw_notation.specs.declared.read_move.MoveFault.TheVariants as reading
use Rattle.dw_games.specs.Tokens.{Token}
use Rattle.dw_games.specs.Play.{IsResult, IsDefence, IsLeftOut, IsOnlyMove, IsNamed, IsRefusedAfter, NamesNoneBehind}
use Rattle.dw_games.specs.Play.{HasTwoMoves, StandsFor, plain, after, beginnings_after}
use Rattle.dw_games.specs.Printed.{Kind, variation, reply, Line, begins, goes_on, first_line, Follows, CannotFollow}
use Rattle.dw_games.specs.Printed.{IsLine, count_moves, AreComments}
use Rattle.dw_games.specs.Movetext.{AreDistinct}
use Rattle.dw_games.specs.Faults.{FaultAt, IsNeither}
use Rattle.dw_games.specs.inner.Noting.{IsNoted}
use Rattle.dw_games.specs.Walk.{PlayedTree, place_of, beginning_at}
use Rattle.dw_games.specs.inner.Ahead.{AreAhead}
use Rattle.dw_games.specs.declared.tokens.Tokens.{Tokens}
use Rattle.dw_games.specs.declared.tokens.TokenKind.TheVariants.{Comment, Opens, CutOff}
use Rattle.dw_games.specs.declared.fault.MovetextFaultKind.{MovetextFaultKind}
use Rattle.dw_games.specs.declared.fault.MovetextFaultKind.TheVariants.{Token as NoToken, Rest, NoSuchMove, Ambiguous}
use Rattle.dw_games.specs.declared.fault.MovetextFaultKind.TheVariants.{Reply}
use Rattle.dw_games.specs.declared.movetext.TheConstants.{MAX_OPEN, MAX_PATH}
use Rattle.dw_games.specs.declared.fault.MovetextFault.{MovetextFault}
use Rattle.dw_games.specs.declared.fault.MovetextFault.TheVariants.{Refused, Memory}
use Rattle.dw_games.specs.declared.reader.Cursor.{Cursor}
use Rattle.dw_games.specs.declared.reader.OpenLine.{OpenLine}
use Rattle.dw_games.specs.declared.reader.Reader.{Reader}
use Rattle.dw_games.specs.declared.reader.Found.{Found}
use Rattle.dw_games.specs.declared.reader.Step.{Step}
use Rattle.dw_games.specs.declared.reader.Step.TheVariants.{Played, Forced}

-- a cursor is after this path of a tree
pub record IsCursor {B : Type 0} (g : Geometry) (p : Placement) (tree : List (List Move)) (cursor : Cursor B)
    (path : List Move) : Type 0 where
  pub there : beginning_at tree (place_of cursor.node) ≡ Some path
  pub position : cursor.position ≡ after g p path
  pub many : cursor.moves ≡ length path

-- a cursor is before the last of these moves, or there is none
abbrev pub IsBefore : {B : Type 0} → Geometry → Placement → List (List Move) → Option (Cursor B) → List Move → List Move
    → Type 0
IsBefore g p tree None before moves = moves ≡ []
IsBefore g p tree (Some cursor) before moves = (front : List Move) × (last : Move) × (moves ≡ front ++ last ∷ [])
    × IsCursor g p tree cursor (before ++ front)

-- a cursor is after the reply that follows some moves, or there is neither
abbrev pub IsAfter : {B : Type 0} → Geometry → Placement → List (List Move) → Option (Cursor B) → (before moves : List
    Move) → Option (List Move) → Type 0
IsAfter g p tree None before moves None = Unit {0}
IsAfter g p tree (Some cursor) before moves (Some answer) = IsCursor g p tree cursor (before ++ (moves ++ answer))
IsAfter g p tree None before moves (Some answer) = ⊥
IsAfter g p tree (Some cursor) before moves None = ⊥

abbrev pub is_reply : Kind → Bool
is_reply variation = false
is_reply reply = true

-- a line in parentheses has no move so far
pub record IsBegun {B : Type 0} (g : Geometry) (p : Placement) (tree : List (List Move)) (line : OpenLine B)
    (front : List Move) (last : Move) : Type 0 where
  pub now : IsCursor g p tree line.now front
  pub none : line.before ≡ None
  pub after : Cursor B
  pub behind : line.behind ≡ Some after
  pub there : IsCursor g p tree after (front ++ last ∷ [])

-- a line has some moves of its own after others
pub record IsGoing {B : Type 0} (g : Geometry) (p : Placement) (tree : List (List Move)) (line : OpenLine B)
    (kind : Kind) (before moves : List Move) (answer : Option (List Move)) : Type 0 where
  pub now : IsCursor g p tree line.now (before ++ moves)
  pub earlier : IsBefore g p tree line.before before moves
  pub behind : line.behind ≡ None
  pub answered : IsAfter g p tree line.answer before moves answer
  pub told : line.is_reply ≡ is_reply kind

abbrev pub IsOpenLine : {B : Type 0} → Geometry → Placement → List (List Move) → OpenLine B → Line → Type 0
IsOpenLine g p tree line (begins front last) = IsBegun g p tree line front last
IsOpenLine g p tree line (goes_on kind before moves answer) = IsGoing g p tree line kind before moves answer

-- a line after one in parentheses
abbrev pub answer_after : {B : Type 0} → OpenLine B → OpenLine B → Option (Cursor B)
answer_after line inner = if inner.is_reply then (if inner.is_single then Some inner.now else None) else line.answer

abbrev pub line_after : {B : Type 0} → OpenLine B → OpenLine B → OpenLine B
line_after line inner = elim inner.behind [
  | Some after ↦ line
  | None ↦ record {
    now = line.now;
    before = line.before;
    behind = line.behind;
    answer = answer_after line inner;
    is_reply = line.is_reply;
    is_single = false;
  }
]

-- all lines that are open, the innermost one first, and the paths so far
pub data Opened {B : Type 0} (g : Geometry) (p : Placement) (tree : List (List Move))
    : ℕ → List Token → OpenLine B → (outer : List (OpenLine B)) → Line → List (List Move) → Type 0 where
  outermost : {ts : List Token} {open_line : OpenLine B} {line : Line} {paths : List (List Move)}
      → IsLine g p MAX_OPEN first_line ts line paths → IsOpenLine g p tree open_line line
      → Opened g p tree MAX_OPEN ts open_line [] line paths
  inner : {room : ℕ} {ts us : List Token} {open_line around : OpenLine B} {outer : List (OpenLine B)} {kind : Kind}
      {before : List Move} {answer : Option (List Move)} {line : Line} {paths more : List (List Move)}
      (moves : List Move) (last : Move) (opening : Token)
      → Opened g p tree (suc room) ts around outer (goes_on kind before (moves ++ last ∷ []) answer) paths
      → opening.what ≡ Opens → IsLine g p room (begins (before ++ moves) last) us line more
      → IsOpenLine g p tree open_line line → open_line.is_single ≡ (count_moves us == 1)
      → Opened g p tree room (ts ++ opening ∷ us) open_line (outer ++ around ∷ []) line (paths ++ more)

-- a reader has read these tokens, and no result among them
pub record HasRead {B : Type 0} (g : Geometry) (p : Placement) (ts : List Token) (reader : Reader B) : Type 0 where
  pub room : ℕ
  pub line : Line
  pub paths : List (List Move)
  pub start : reader.tree.start ≡ p
  pub opened : Opened g p reader.tree.paths room ts reader.line reader.outer.items line paths
  pub distinct : AreDistinct paths reader.tree.paths

-- a fault is that of a token after those before it
abbrev pub IsFaultOf : Geometry → Placement → List Token → Token → MovetextFault → Type 0
IsFaultOf g p ts t (Refused what place) = FaultAt g p ts t what × (place ≡ t.place)
IsFaultOf g p ts t Memory = Unit {0}

-- a token is read as one more, or as the result where no variation in parentheses is open, or is at fault
abbrev pub IsTaken : {B : Type 0} → Geometry → Placement → List Token → Token → Reader B → Result Bool MovetextFault
    → Type 0
IsTaken g p ts t reader (Ok false) = HasRead g p (ts ++ t ∷ []) reader
IsTaken g p ts t reader (Ok true) = IsResult t × HasRead g p ts reader × (reader.outer.items ≡ [])
IsTaken g p ts t reader (Err why) = IsFaultOf g p ts t why

-- a place is after these moves
pub record IsAt {B : Type 0} (g : Geometry) (p : Placement) (cursor : Cursor B) (path : List Move) : Type 0 where
  pub position : cursor.position ≡ after g p path
  pub many : cursor.moves ≡ length path

-- the moves of a step
abbrev pub moves_of : {B : Type 0} → Step B → List Move
moves_of (Played m) = m ∷ []
moves_of (Forced answer m) = answer ∷ m ∷ []

-- a token stands for nothing after a path
abbrev pub IsNoStep : Geometry → Placement → List Move → Token → MovetextFaultKind → Type 0
IsNoStep g p path t what = ((what ≡ NoToken) × IsNeither g t) ⊎ IsRefusedAfter g p path t what

-- what a token stands for after a path, or its fault
abbrev pub IsStepAt : {B : Type 0} → Geometry → Placement → List Move → Token → Result (Step B) MovetextFault → Type 0
IsStepAt g p path t (Ok step) = StandsFor g p path t (moves_of step)
IsStepAt g p path t (Err (Refused what place)) = IsNoStep g p path t what × (place ≡ t.place)
IsStepAt g p path t (Err Memory) = Unit {0}

-- the same of a token that names no single move there
abbrev pub IsMissedAt : {B : Type 0} → Geometry → Placement → List Move → Token → Result (Step B) MovetextFault → Type 0
IsMissedAt g p path t (Ok (Played m)) = ⊥
IsMissedAt g p path t (Ok (Forced answer m)) =
    (length path < MAX_PATH) × IsDefence path × IsLeftOut g (after g p path) t answer m
IsMissedAt g p path t (Err (Refused what place)) = IsNoStep g p path t what × (place ≡ t.place)
IsMissedAt g p path t (Err Memory) = Unit {0}

-- how a token goes on with a line, from a place of the tree
pub record IsFound {B : Type 0} (g : Geometry) (p : Placement) (tree : List (List Move)) (line : Line) (t : Token)
    (found : Found B) : Type 0 where
  pub kind : Kind
  pub before : List Move
  pub moves : List Move
  pub follows : Follows g p line t kind before moves (moves_of found.step)
  pub stands : StandsFor g p (before ++ moves) t (moves_of found.step)
  pub from : IsCursor g p tree found.from (before ++ moves)
  pub is_reply : found.is_reply ≡ is_reply kind

abbrev pub IsFoundOr : {B : Type 0} → Geometry → Placement → List (List Move) → Line → Token
    → Result (Found B) MovetextFault → Type 0
IsFoundOr g p tree line t (Ok found) = IsFound g p tree line t found
IsFoundOr g p tree line t (Err (Refused what place)) =
    (((what ≡ NoToken) × IsNeither g t) ⊎ CannotFollow g p line t what) × (place ≡ t.place)
IsFoundOr g p tree line t (Err Memory) = Unit {0}

-- a token that names no legal move of the defender: the reply that it leaves out and the move after that, or its fault
abbrev pub IsForcedOr : {B : Type 0} → Geometry → Placement → Token → Result (Step B) MovetextFault → Type 0
IsForcedOr g q t (Ok (Played m)) = ⊥
IsForcedOr g q t (Ok (Forced answer m)) = IsOnlyMove g q answer × IsRead g (play g q answer) (plain t.text) (Ok m)
IsForcedOr g q t (Err (Refused NoSuchMove place)) = NamesNoneBehind g q (plain t.text) × (place ≡ t.place)
IsForcedOr g q t (Err (Refused Ambiguous place)) = (reply : Move) × IsOnlyMove g q reply
    × IsRead g (play g q reply) (plain t.text) (Err reading.Ambiguous) × (place ≡ t.place)
IsForcedOr g q t (Err (Refused Reply place)) = (reply : Move) × HasTwoMoves g q × Legal g q reply
    × IsNamed g (play g q reply) (plain t.text) × (place ≡ t.place)
IsForcedOr g q t (Err (Refused what place)) = ⊥
IsForcedOr g q t (Err Memory) = Unit {0}

-- whether a text names a legal move after one of these replies; memory may be refused
abbrev pub IsSearched : Geometry → Placement → List ℕ → List Move → Result Bool MovetextFault → Type 0
IsSearched g q text replies (Ok true) = (reply : Move) × Member reply replies × IsNamed g (play g q reply) text
IsSearched g q text replies (Ok false) = (reply : Move) → Member reply replies
    → IsRead g (play g q reply) text (Err reading.NoSuchMove)
IsSearched g q text replies (Err why) = why ≡ Memory

-- a legal move may be noted after a place of a tree
pub record CanNote {B : Type 0} (g : Geometry) (tree : PlayedTree) (from : Cursor B) (m : Move) : Type 0 where
  pub path : List Move
  pub cursor : IsCursor g tree.start tree.paths from path
  pub legal : Legal g from.position m
  pub short : from.moves < MAX_PATH

-- the moves of a step may be noted after a place of a tree
abbrev pub CanNoteStep : {B : Type 0} → Geometry → PlayedTree → Cursor B → Step B → Type 0
CanNoteStep g tree from (Played m) = CanNote g tree from m
CanNoteStep g tree from (Forced answer m) =
    CanNote g tree from answer × Legal g (play g from.position answer) m × (from.moves + 1 < MAX_PATH)

-- a tree has noted a move after a path
pub record HasNoted {B : Type 0} (g : Geometry) (old new : PlayedTree) (path : List Move) (m : Move) (to : Cursor B)
    : Type 0 where
  pub start : new.start ≡ old.start
  pub noted : IsNoted old.paths (path ++ m ∷ []) new.paths
  pub there : IsCursor g old.start new.paths to (path ++ m ∷ [])

-- a tree has noted some moves after a path, one or more
pub record HasNotedStep {B : Type 0} (g : Geometry) (old new : PlayedTree) (path more : List Move) (from to : Cursor B)
    : Type 0 where
  pub start : new.start ≡ old.start
  pub distinct : (paths : List (List Move)) → AreDistinct paths old.paths
      → AreDistinct (paths ++ beginnings_after path more) new.paths
  pub kept : (node : Option ℕ) (b : List Move) → beginning_at old.paths node ≡ Some b
      → beginning_at new.paths node ≡ Some b
  pub now : IsCursor g old.start new.paths to (path ++ more)
  pub front : List Move
  pub last : Move
  pub is : more ≡ front ++ last ∷ []
  pub before : IsCursor g old.start new.paths from (path ++ front)

-- a reader has read some tokens, from some position on
abbrev pub IsReading : {B : Type 0} → Geometry → Reader B → Type 0
IsReading g reader = (p : Placement) × (ts : List Token) × HasRead g p ts reader

-- some tokens were read: what is ahead now was ahead after them
abbrev pub ReadOn : Tokens → List Token → Tokens → Type 0
ReadOn old ts now = (more : List Token) (rest : List ℕ) → AreAhead now more rest → AreAhead old (ts ++ more) rest

-- one of the tokens that were ahead is at fault
abbrev pub IsStopped : Geometry → Placement → Tokens → MovetextFault → Type 0
IsStopped g p old (Refused what place) = (ts : List Token) × (t : Token) × (rest : List ℕ)
    × AreAhead old (ts ++ t ∷ []) rest × FaultAt g p ts t what × (place ≡ t.place)
IsStopped g p old Memory = Unit {0}

-- all tokens were read, or those up to and with the result, or one is at fault
abbrev pub HasEnded : {B : Type 0} → Geometry → Placement → Tokens → Tokens → Reader B → Result Bool MovetextFault
    → Type 0
HasEnded g p old now reader (Ok false) = (ts : List Token) × HasRead g p ts reader × AreAhead old ts []
HasEnded g p old now reader (Ok true) = (ts : List Token) × (t : Token) × HasRead g p ts reader
    × (reader.outer.items ≡ []) × IsResult t × ReadOn old (ts ++ t ∷ []) now
HasEnded g p old now reader (Err why) = IsStopped g p old why

-- so far some tokens were read
abbrev pub HasGoneOn : {B : Type 0} → Geometry → Placement → Tokens → Tokens → Reader B → Type 0
HasGoneOn g p old now reader = (ts : List Token) × HasRead g p ts reader × ReadOn old ts now

-- a token is none that may stand after a result
abbrev pub IsOdd : Token → MovetextFault → Type 0
IsOdd t (Refused what place) = (((what ≡ NoToken) × (t.what ≡ CutOff))
    ⊎ ((what ≡ Rest) × (t.what ≢ Comment) × (t.what ≢ CutOff))) × (place ≡ t.place)
IsOdd t Memory = ⊥

-- comments alone are ahead, or another token after some comments
abbrev pub AreLast : {A : Type 0} → Tokens → Result A MovetextFault → Type 0
AreLast old (Ok done) = (cs : List Token) × AreComments cs × AreAhead old cs []
AreLast old (Err why) = (cs : List Token) × (t : Token) × (rest : List ℕ) × AreComments cs
    × AreAhead old (cs ++ t ∷ []) rest × IsOdd t why
