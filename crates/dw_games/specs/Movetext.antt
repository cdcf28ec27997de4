-- The tree of moves of a movetext.
use Rattle.std.specs.Prelude.{◌⊎◌, ℕ, ◌<◌, ◌≤◌, true, List, [], ◌∷◌, ◌++◌, length}
use Rattle.dw_board.specs.Geometry.{Geometry}
use Rattle.dw_board.specs.Placement.{Placement}
use Rattle.dw_board.specs.Lists.{Member}
use Rattle.dw_moves.specs.Moves.{Move}
use Rattle.dw_games.specs.Tokens.{Token, AreTokens}
use Rattle.dw_games.specs.Printed.{IsPlay, IsOver}
use Rattle.dw_games.specs.declared.movetext.TheConstants.{MAX_MOVETEXT}

-- the play, without a result or with one
abbrev pub IsGame : Geometry → Placement → List Token → List (List Move) → Type 0
IsGame g p ts paths = IsPlay g p ts paths ⊎ IsOver g p ts paths

-- a list without its repeats: each path where it comes first
pub data AreDistinct : (paths tree : List (List Move)) → Type 0 where
  nothing : AreDistinct [] []
  again : {paths tree : List (List Move)} (path : List Move) → AreDistinct paths tree → Member path tree
      → AreDistinct (paths ++ path ∷ []) tree
  first : {paths tree : List (List Move)} (path : List Move) → AreDistinct paths tree → (Member path tree → ⊥)
      → AreDistinct (paths ++ path ∷ []) (tree ++ path ∷ [])

-- The tree of a movetext: its paths, each once, in the order in which they first stand in the text. There is one at
-- the least.
pub record IsTree (g : Geometry) (p : Placement) (text : List ℕ) (tree : List (List Move)) : Type 0 where
  pub size : length text ≤ MAX_MOVETEXT
  pub tokens : List Token
  pub are_tokens : AreTokens 1 true text tokens []
  pub paths : List (List Move)
  pub game : IsGame g p tokens paths
  pub distinct : AreDistinct paths tree
  pub some : 0 < length tree
