use Rattle.std.proofs.Common.{ℕ, ◌+◌, ◌*◌, List, length}
use Rattle.std.specs.FinSet as fin
use Rattle.dw_board.specs.declared.piece.Side.{Side}
use Rattle.dw_board.specs.Geometry.{OnBoard}
use Rattle.dw_board.specs.Placement.{Placement}
use Rattle.dw_moves.specs.Moves.{ray}
use Rattle.dw_moves.specs.inner.Glance.{IsGround}
use Rattle.dw_moves.specs.inner.Walks.{so_far}
use Rattle.dw_moves.proofs.WalkLemmas.{Landed}
use Rattle.dw_moves.proofs.walk.+walk.Given as goal

abbrev pub decreases-walk_onto : goal.decreases-walk_onto
decreases-walk_onto g l = 3 * fin.len (fin.difference l.field.now.enemies l.chain.now.taken) + 2

abbrev pub decreases-walk : goal.decreases-walk
decreases-walk g l = 3 * fin.len (fin.difference l.field.now.enemies l.chain.now.taken) + 1

abbrev pub decreases-walk_towards : goal.decreases-walk_towards
decreases-walk_towards g l = 3 * fin.len (fin.difference l.field.now.enemies l.chain.now.taken)

abbrev pub invariant-walk_towards-landings : goal.invariant-walk_towards-landings
invariant-walk_towards-landings g l = record {
  on : OnBoard g.B.Board.geometry l.at;
  path : (path : List ℕ) → g.K.Keeper.is_on l.initial.keeper path → g.K.Keeper.is_on l.keeper path;
  walked : (p : Placement) (side : Side) (path : List ℕ)
      → IsGround g.B.Board.geometry p side l.field.enemies l.field.occupied
      → g.K.Keeper.is_on l.initial.keeper path
      → Landed g.K.Keeper.holds g.B.Board.geometry p (record { side = side; kind = g.M.Mover.as_kind })
      (so_far l.chain.from l.chain.at l.chain.taken path) l.over l.direction l.at l.initial.keeper l.keeper;
}

abbrev pub decreases-walk_towards-landings : goal.decreases-walk_towards-landings
decreases-walk_towards-landings g l = length (ray g.B.Board.geometry l.at l.direction)
