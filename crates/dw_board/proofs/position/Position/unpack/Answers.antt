use Rattle.std.proofs.Common.{◌∙◌}
use Rattle.dw_board.specs.PieceSets.{set_of}
use Rattle.dw_board.specs.Packing.{packed_cells}
use Rattle.dw_board.proofs.PieceSetLemmas.{cells_again, kept-again}
use Rattle.dw_board.proofs.PackingLemmas.{parted_kept}
use Rattle.dw_board.proofs.position.Position.unpack.Goals as goal

pub invariant_of-result : goal.invariant_of-result
invariant_of-result g c =
    let geo = g.B.Board.geometry in
    let now = set_of c.parted-held.result in
    let of = c.packed.inside in
    let cells = packed_cells of.white of.black of.kings in
    kept-again geo cells now (parted_kept geo cells now of.white of.black of.kings c.packed.invariant
    c.parted-held.ensures)

pub returns : goal.returns
returns g c =
    let geo = g.B.Board.geometry in
    let now = set_of c.parted-held.result in
    let of = c.packed.inside in
    let cells = packed_cells of.white of.black of.kings in
    let again = cells_again geo cells now (parted_kept geo cells now of.white of.black of.kings c.packed.invariant
    c.parted-held.ensures) in
    λ i. record { cells = (again ∙ c.packed.view_is) i; turn = c.args.turn }
