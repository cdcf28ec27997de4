use Rattle.std.proofs.Common.{◌∙◌, ap, arith}
use Rattle.std.specs.FinSet as set
use Rattle.dw_board.specs.Placement as of
use Rattle.dw_board.specs.PieceSets.{set_of, cells_of}
use Rattle.dw_board.proofs.PieceSetLemmas.{count-kept, count-fits}
use Rattle.dw_board.proofs.position.Position.count.Goals as goal

pub returns-clause-value : goal.returns-clause-value
returns-clause-value g c =
    count-kept g.B.Board.geometry (cells_of (set_of c.self.inside.held)) _ c.self.invariant c.args.side _ _
    (c.count.ensures.value ∙ ap set.len c.of.ensures)
    (c.count-2.ensures.value ∙ ap set.len c.of-2.ensures)
    ∙ ap (λ v. of.count v c.args.side) c.self.view_is

pub returns-clause-fits : goal.returns-clause-fits
returns-clause-fits g c =
    let is = count-kept g.B.Board.geometry (cells_of (set_of c.self.inside.held)) _ c.self.invariant c.args.side _ _
    (c.count.ensures.value ∙ ap set.len c.of.ensures)
    (c.count-2.ensures.value ∙ ap set.len c.of-2.ensures) in
    omega (
      arith,
      is,
      count-fits g.B.Board.geometry (cells_of (set_of c.self.inside.held)) c.self.invariant.position c.args.side,
    )

pub returns-clause-small : goal.returns-clause-small
returns-clause-small g c =
    let is = count-kept g.B.Board.geometry (cells_of (set_of c.self.inside.held)) _ c.self.invariant c.args.side _ _
    (c.count.ensures.value ∙ ap set.len c.of.ensures)
    (c.count-2.ensures.value ∙ ap set.len c.of-2.ensures) in
    omega (
      arith,
      is,
      count-fits g.B.Board.geometry (cells_of (set_of c.self.inside.held)) c.self.invariant.position c.args.side,
      g.met.B.Board.numbers.side_high,
    )
