-- What is kept of problems, and how it answers.
use Rattle.std.specs.Prelude.{ℕ, List, Option, if◌then◌else◌, nat_eq, option_map}
use Rattle.dw_board.specs.Geometry.{Geometry}
use Rattle.dw_board.specs.Placement.{IsPosition, Placement, cell_codes, same_side}
use Rattle.dw_board.specs.declared.piece.Side.{Side}
use Rattle.dw_board.specs.declared.piece.Side.TheVariants.{Black, White}
use Rattle.dw_same.specs.Repeats.{IsFirstSame, Noted}
use Rattle.dw_same.specs.Turning.{turned}
use Rattle.dw_same.specs.declared.index.First.{First}
use Rattle.dw_same.specs.declared.index.ProblemIndex.{ProblemIndex}
use Rattle.dw_same.specs.declared.index.Repeat.{Repeat}
use Rattle.dw_same.specs.declared.index.Repeat.TheVariants.{Same, Turned}
use Rattle.std.specs.Map.{lookup}
use Rattle.std.specs.Cmp.Lexicographic.{pointwise}
use Rattle.std.specs.Prelude.{nat_eq}

-- of a position and its turned one, that with White to move
abbrev pub with_white_to_move : Geometry → Placement → Side → Placement
with_white_to_move g p White = p
with_white_to_move g p Black = turned g p

-- the numbers of the cells of a position, or of its turned one, with White to move
abbrev pub key : Geometry → Placement → List ℕ
key g p = cell_codes (with_white_to_move g p p.turn)

-- how a position repeats the problem of an entry
abbrev pub repeat_of : First → Side → Repeat
repeat_of first turn = if same_side first.turn turn then Same first.number else Turned first.number

-- how a position repeats the problem of the entry with its key, if there is one
abbrev pub found_in : Geometry → List (List ℕ × First) → Placement → Option Repeat
found_in g entries p = option_map (λ first. repeat_of first p.turn) (lookup (pointwise nat_eq (key g p)) entries)

-- An index answers on each position as the problems do that were added.
-- Sealed: the clauses of an index name it, and say all that is to be known of it.
unfoldable pub AreAdded : {B : Type 0} → Geometry → List Noted → ProblemIndex B → Type 0
AreAdded g problems index =
    (p : Placement) → IsPosition g p.cells → IsFirstSame g problems p (found_in g index.firsts.entries p)
