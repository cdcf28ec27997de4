-- Laws of lines, for every board.
use Rattle.std.specs.Prelude.{◌≡◌, ℕ, ◌↔◌, ◌⊎◌, List, [], ◌∷◌, ◌++◌}
use Rattle.dw_board.specs.Geometry.{Geometry, IsBoard}
use Rattle.dw_board.specs.Placement.{Placement}
use Rattle.dw_moves.specs.Moves.{Move}
use Rattle.dw_solve.specs.Wins.{Win}
use Rattle.dw_solve.specs.Lines.{Line, Lines}
use Rattle.dw_list.specs.Places.{IsPlace}
use Rattle.dw_list.specs.LineStack.{LineStack}
use Rattle.dw_list.specs.StackWalk.{Gives}

-- no line begins another
abbrev pub NoneBegins : Type 0
NoneBegins = (g : Geometry) (p : Placement) (n : ℕ) (l : List Move) (m : Move) (rest : List Move) →
    Line g p n l → Line g p n (l ++ m ∷ rest) → ⊥

-- the lines of a position can be listed, in one way, and there are none exactly if there is no win
pub record LinesExist : Type 0 where
  pub some : (g : Geometry) → IsBoard g → (p : Placement) (n : ℕ) → (lines : List (List Move)) × Lines g p n lines
  pub only : (g : Geometry) (p : Placement) (n : ℕ) (lines others : List (List Move)) →
      Lines g p n lines → Lines g p n others → lines ≡ others
  pub empty : (g : Geometry) (p : Placement) (n : ℕ) (lines : List (List Move)) →
      Lines g p n lines → (lines ≡ []) ↔ (Win g p n → ⊥)

-- a list of moves is a line or has a place at which it leaves all lines, never both, and it has one place only
pub record LineOrPlace : Type 0 where
  pub some : (g : Geometry) (p : Placement) (n : ℕ) (l : List Move) →
      Line g p n l ⊎ ((place : ℕ) × IsPlace g p n l place)
  pub both : (g : Geometry) (p : Placement) (n : ℕ) (l : List Move) (place : ℕ) →
      Line g p n l → IsPlace g p n l place → ⊥
  pub only : (g : Geometry) (p : Placement) (n : ℕ) (l : List Move) (j k : ℕ) →
      IsPlace g p n l j → IsPlace g p n l k → j ≡ k

-- lists that were given in two turns were given one after the other; an empty turn changes nothing
pub record LinesInTurn : Type 0 where
  pub nothing : (g : Geometry) (s : LineStack) → Gives g s s []
  pub then : (g : Geometry) (a b c : LineStack) (first others : List (List Move)) → Gives g a b first
      → Gives g b c others → Gives g a c (first ++ others)
