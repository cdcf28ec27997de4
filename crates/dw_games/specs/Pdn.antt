-- Play as PDN has it: each move is written, and all parentheses are variations.
use Rattle.std.specs.Prelude.{◌≡◌, ℕ, ◌<◌, List, [], ◌∷◌, ◌++◌, length}
use Rattle.std.proofs.Common.{suc}
use Rattle.dw_board.specs.Geometry.{Geometry}
use Rattle.dw_board.specs.Placement.{Placement}
use Rattle.dw_moves.specs.Moves.{Move}
use Rattle.dw_games.specs.Tokens.{Token}
use Rattle.dw_games.specs.Play.{IsMove, IsPassed, after}
use Rattle.dw_games.specs.Printed.{IsPlay}
use Rattle.dw_games.specs.declared.tokens.TokenKind.TheVariants.{Opens, Closes}
use Rattle.dw_games.specs.declared.movetext.TheConstants.{MAX_PATH, MAX_OPEN}

-- A variation of PDN: the number of variations that may be open in it, the moves before it, its tokens, its own moves,
-- and all paths through it, in turn. It is empty, or a variation followed by a token without effect, or by a move, or
-- by another variation in parentheses, which begins before the last move.
pub data IsVariation (g : Geometry) (p : Placement)
    : ℕ → (before : List Move) → List Token → (moves : List Move) → (paths : List (List Move)) → Type 0 where
  empty : {room : ℕ} {before : List Move} → IsVariation g p room before [] [] []
  passed : {room : ℕ} {before moves : List Move} {ts : List Token} {paths : List (List Move)} (t : Token)
      → IsVariation g p room before ts moves paths → IsPassed t.what
      → IsVariation g p room before (ts ++ t ∷ []) moves paths
  move : {room : ℕ} {before moves : List Move} {ts : List Token} {paths : List (List Move)} {t : Token} {m : Move}
      → IsVariation g p room before ts moves paths → length (before ++ moves) < MAX_PATH
      → IsMove g (after g p (before ++ moves)) t m
      → IsVariation g p room before (ts ++ t ∷ []) (moves ++ m ∷ []) (paths ++ (before ++ (moves ++ m ∷ [])) ∷ [])
  variation : {room : ℕ} {before others : List Move} {ts us : List Token} {paths more : List (List Move)}
      (moves : List Move) (last : Move) (opening closing : Token)
      → IsVariation g p (suc room) before ts (moves ++ last ∷ []) paths → opening.what ≡ Opens
      → IsVariation g p room (before ++ moves) us others more → closing.what ≡ Closes
      → IsVariation g p (suc room) before (ts ++ opening ∷ (us ++ closing ∷ [])) (moves ++ last ∷ []) (paths ++ more)

-- the play of PDN is read as play, with the paths that it has
abbrev pub PdnIsRead : Type 0
PdnIsRead = (g : Geometry) (p : Placement) (ts : List Token) (moves : List Move) (paths : List (List Move))
    → IsVariation g p MAX_OPEN [] ts moves paths → IsPlay g p ts paths
