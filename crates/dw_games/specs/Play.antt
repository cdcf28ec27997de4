-- Moves, results and marks of a movetext: what a token of a move stands for after the moves before it.
use Rattle.std.specs.Prelude.{Bool, ◌≡◌, ◌⊎◌, ℕ, ◌%◌, ◌==◌, ◌<◌, if◌then◌else◌, List, [], ◌∷◌, ◌++◌, length, codes}
use Rattle.std.specs.Prelude.{Ok, Err}
use Rattle.std.specs.List.{list_any}
use Rattle.dw_board.specs.Geometry.{Geometry}
use Rattle.dw_board.specs.Placement.{Placement}
use Rattle.dw_board.specs.FenTokens.{colon, dash}
use Rattle.dw_board.specs.Lists.{Member}
use Rattle.dw_moves.specs.Moves.{Legal, Move, play}
use Rattle.dw_notation.specs.Text.{cross}
use Rattle.dw_notation.specs.MoveReading.{Named, Names, IsRead}
use Rattle.dw_notation.specs.declared.read_move.MoveFault.{MoveFault}
use Rattle.dw_notation.specs.declared.read_move.MoveFault.TheVariants as reading
use Rattle.dw_games.specs.Tokens.{Token}
use Rattle.dw_games.specs.declared.tokens.TokenKind.{TokenKind}
use Rattle.dw_games.specs.declared.tokens.TokenKind.TheVariants.{Comment, Passed, Written}
use Rattle.dw_games.specs.declared.fault.MovetextFaultKind.{MovetextFaultKind}
use Rattle.dw_games.specs.declared.fault.MovetextFaultKind.TheVariants.{NoSuchMove, Ambiguous, TooLong, Reply}
use Rattle.dw_games.specs.declared.movetext.TheConstants.{MAX_PATH}

-- the texts of results
abbrev pub results : List (List ℕ)
results = codes "2-0" ∷ codes "0-2" ∷ codes "1-1" ∷ codes "0-0" ∷ codes "1-0" ∷ codes "0-1" ∷ codes "1/2-1/2"
    ∷ codes "*" ∷ []

-- the first bytes of dashes and crosses of more than one byte: the last byte alone says which of both it is
abbrev pub is_leading : ℕ → Bool
is_leading byte = list_any (λ leading. byte == leading) (226 ∷ 128 ∷ 136 ∷ 195 ∷ [])

-- a dash for the last byte of each dash, and x for the last byte of each cross but X
abbrev pub plain_byte : ℕ → ℕ
plain_byte byte =
    if list_any (λ last. byte == last) (150 ∷ 145 ∷ 147 ∷ 146 ∷ []) then dash
    else (if list_any (λ last. byte == last) (colon ∷ 215 ∷ 151 ∷ []) then cross else byte)

-- the text of a move or a result with one byte for each sign
abbrev pub plain : List ℕ → List ℕ
plain [] = []
plain (byte ∷ bytes) = if is_leading byte then plain bytes else plain_byte byte ∷ plain bytes

-- a token is a result
pub record IsResult (t : Token) : Type 0 where
  pub written : t.what ≡ Written
  pub result : Member (plain t.text) results

-- the position after moves that are played one after another
abbrev pub after : Geometry → Placement → List Move → Placement
after g p [] = p
after g p (m ∷ moves) = after g (play g p m) moves

-- a token is no result, and names this legal move of a position
pub record IsMove (g : Geometry) (p : Placement) (t : Token) (m : Move) : Type 0 where
  pub written : t.what ≡ Written
  pub no_result : IsResult t → ⊥
  pub named : IsRead g p (plain t.text) (Ok m)

-- the side that does not begin, the defender, is to move after these moves
abbrev pub IsDefence : List Move → Type 0
IsDefence moves = length moves % 2 ≡ 1

-- a move is legal, and no other one is
pub record IsOnlyMove (g : Geometry) (p : Placement) (m : Move) : Type 0 where
  pub legal : Legal g p m
  pub alone : (other : Move) → Legal g p other → other ≡ m

-- a token leaves a reply out: it names no legal move here, but this one after the only legal reply
pub record IsLeftOut (g : Geometry) (p : Placement) (t : Token) (reply m : Move) : Type 0 where
  pub none : IsRead g p (plain t.text) (Err reading.NoSuchMove)
  pub only : IsOnlyMove g p reply
  pub next : IsMove g (play g p reply) t m

-- the beginnings of moves after other moves, each one move longer
abbrev pub beginnings_after : List Move → List Move → List (List Move)
beginnings_after before [] = []
beginnings_after before (m ∷ moves) = (before ++ m ∷ []) ∷ beginnings_after (before ++ m ∷ []) moves

-- after a path a token stands for a move that it names, or for a reply that it leaves out and the move after it
pub data StandsFor (g : Geometry) (p : Placement) (path : List Move) (t : Token) : List Move → Type 0 where
  named : {m : Move} → length path < MAX_PATH → IsMove g (after g p path) t m → StandsFor g p path t (m ∷ [])
  left_out : {reply m : Move} → length path < MAX_PATH → IsDefence path → IsLeftOut g (after g p path) t reply m
      → StandsFor g p path t (reply ∷ m ∷ [])

-- a token is no result, and its text has the form of a move
pub record HasForm (g : Geometry) (t : Token) : Type 0 where
  pub written : t.what ≡ Written
  pub no_result : IsResult t → ⊥
  pub named : Named
  pub form : Names g (plain t.text) named

-- a token has the form of a move, but it names no legal move of this position, or several
pub record IsRefused (g : Geometry) (p : Placement) (t : Token) (why : MoveFault) : Type 0 where
  pub form : HasForm g t
  pub refused : IsRead g p (plain t.text) (Err why)

-- a text names a legal move of a position, or several
abbrev pub IsNamed : Geometry → Placement → List ℕ → Type 0
IsNamed g p text = ((m : Move) × IsRead g p text (Ok m)) ⊎ IsRead g p text (Err reading.Ambiguous)

-- a text names no legal move after any legal reply
abbrev pub NamesNoneBehind : Geometry → Placement → List ℕ → Type 0
NamesNoneBehind g p text = (reply : Move) → Legal g p reply
    → IsRead g (play g p reply) text (Err reading.NoSuchMove)

-- two legal moves
pub record HasTwoMoves (g : Geometry) (p : Placement) : Type 0 where
  pub first : Move
  pub second : Move
  pub legal : Legal g p first
  pub legal_too : Legal g p second
  pub differ : first ≡ second → ⊥

-- after a path a token of the form of a move stands for nothing, and has a fault of this kind
pub data IsRefusedAfter (g : Geometry) (p : Placement) (path : List Move) (t : Token) : MovetextFaultKind → Type 0 where
  no_such_move : length path < MAX_PATH → IsRefused g (after g p path) t reading.NoSuchMove
      → (IsDefence path → NamesNoneBehind g (after g p path) (plain t.text)) → IsRefusedAfter g p path t NoSuchMove
  ambiguous : length path < MAX_PATH → IsRefused g (after g p path) t reading.Ambiguous
      → IsRefusedAfter g p path t Ambiguous
  ambiguous_after_reply : (reply : Move) → length path < MAX_PATH → IsDefence path
      → IsRefused g (after g p path) t reading.NoSuchMove → IsOnlyMove g (after g p path) reply
      → IsRead g (play g (after g p path) reply) (plain t.text) (Err reading.Ambiguous)
      → IsRefusedAfter g p path t Ambiguous
  no_reply : (reply : Move) → length path < MAX_PATH → IsDefence path
      → IsRefused g (after g p path) t reading.NoSuchMove → HasTwoMoves g (after g p path)
      → Legal g (after g p path) reply → IsNamed g (play g (after g p path) reply) (plain t.text)
      → IsRefusedAfter g p path t Reply
  too_long : length path ≡ MAX_PATH → HasForm g t → IsRefusedAfter g p path t TooLong

-- a token without effect: a comment, a number or a mark
abbrev pub IsPassed : TokenKind → Type 0
IsPassed what = (what ≡ Comment) ⊎ (what ≡ Passed)
