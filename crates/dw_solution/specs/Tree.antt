-- Lines of play as a tree.
use Rattle.std.specs.Prelude.{◌≡◌, List, [], ◌∷◌, ◌++◌, map}
use Rattle.dw_moves.specs.Moves.{Move}

-- The continuation of a beginning: nothing; or a move, with its continuation, and the other moves in its place.
pub data Tree : Type 0 where
  over : Tree
  branch : Move → (behind others : Tree) → Tree

-- the continuations after a move: only the empty one if the play ends
abbrev pub or_ended : List (List Move) → List (List Move)
or_ended [] = [] ∷ []
or_ended (l ∷ lines) = l ∷ lines

-- all ways from the root of a tree to its ends, in turn
abbrev pub lines_of : Tree → List (List Move)
lines_of over = []
lines_of (branch m behind others) = map (λ l. m ∷ l) (or_ended (lines_of behind)) ++ lines_of others

-- a move is not the first of these
abbrev pub IsNotFirst : Move → Tree → Type 0
IsNotFirst m over = Unit {0}
IsNotFirst m (branch n behind others) = m ≡ n → ⊥

-- no two neighbours among the moves in one place are the same
abbrev pub AreApart : Tree → Type 0
AreApart over = Unit {0}
AreApart (branch m behind others) = IsNotFirst m others × AreApart behind × AreApart others

-- The tree of some lines: it has these, in this order, and the shared beginning of neighbours is in it once.
pub record IsTreeOf (all : List (List Move)) (tree : Tree) : Type 0 where
  pub lines : lines_of tree ≡ all
  pub apart : AreApart tree
