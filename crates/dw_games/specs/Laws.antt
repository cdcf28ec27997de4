-- Laws of movetexts, their tokens, and written lines.
use Rattle.std.specs.Prelude.{◌≡◌, ◌⊎◌, ℕ, true, List, [], ◌∷◌, ◌++◌}
use Rattle.dw_board.specs.Geometry.{Geometry}
use Rattle.dw_board.specs.Placement.{Placement}
use Rattle.dw_board.specs.Lists.{Member}
use Rattle.dw_moves.specs.Moves.{Move, Legal}
use Rattle.dw_games.specs.Play.{after}
use Rattle.dw_games.specs.Tokens.{Token, AreTokens}
use Rattle.dw_games.specs.Movetext.{IsTree}
use Rattle.dw_games.specs.Faults.{IsFirstFault}
use Rattle.dw_games.specs.Lines.{IsWrittenLine, IsFirstLineFault}
use Rattle.dw_games.specs.declared.fault.LineFaultKind.{LineFaultKind}
use Rattle.dw_games.specs.declared.fault.MovetextFaultKind.{MovetextFaultKind}

-- a row of tokens of a text, which is the only one
pub record HasOneRow (text : List ℕ) : Type 0 where
  pub tokens : List Token
  pub are : AreTokens 1 true text tokens []
  pub one : (others : List Token) → AreTokens 1 true text others [] → others ≡ tokens

-- each text has exactly one row of tokens
abbrev pub OneRow : Type 0
OneRow = (text : List ℕ) → HasOneRow text

-- a text has at most one tree and at most one first fault, and never both
pub record HasOneAnswer (g : Geometry) (p : Placement) (text : List ℕ) : Type 0 where
  pub one_tree : (tree other : List (List Move)) → IsTree g p text tree → IsTree g p text other → tree ≡ other
  pub one_fault : (what other : MovetextFaultKind) (place there : ℕ) → IsFirstFault g p text what place
      → IsFirstFault g p text other there → (what ≡ other) × (place ≡ there)
  pub never_both : (tree : List (List Move)) (what : MovetextFaultKind) (place : ℕ) → IsTree g p text tree
      → IsFirstFault g p text what place → ⊥

-- at each position a text has at most one answer
abbrev pub OneAnswer : Type 0
OneAnswer = (g : Geometry) (p : Placement) (text : List ℕ) → HasOneAnswer g p text

-- a path of a tree is played: its last move is legal after the moves before it, if there are any, and these stand in
-- the tree too
pub record IsPlayed (g : Geometry) (p : Placement) (tree : List (List Move)) (path : List Move) : Type 0 where
  pub front : List Move
  pub last : Move
  pub is : path ≡ front ++ last ∷ []
  pub legal : Legal g (after g p front) last
  pub there : (front ≡ []) ⊎ Member front tree

-- all paths of a tree are played
abbrev pub TreesArePlayed : Type 0
TreesArePlayed = (g : Geometry) (p : Placement) (text : List ℕ) (tree : List (List Move)) → IsTree g p text tree
    → (path : List Move) → Member path tree → IsPlayed g p tree path

-- a text is at most one line and has at most one first fault as a line, and never both
pub record HasOneLine (g : Geometry) (p : Placement) (text : List ℕ) : Type 0 where
  pub one_line : (moves other : List Move) → IsWrittenLine g p text moves → IsWrittenLine g p text other → moves ≡ other
  pub one_fault : (what other : LineFaultKind) (place there : ℕ) → IsFirstLineFault g p text what place
      → IsFirstLineFault g p text other there → (what ≡ other) × (place ≡ there)
  pub never_both : (moves : List Move) (what : LineFaultKind) (place : ℕ) → IsWrittenLine g p text moves
      → IsFirstLineFault g p text what place → ⊥

-- at each position a text has at most one answer as a line
abbrev pub OneLine : Type 0
OneLine = (g : Geometry) (p : Placement) (text : List ℕ) → HasOneLine g p text
