use Rattle.std.proofs.Common.{◌∙◌, ap, None, set as put_at, ◌-◌}
use Rattle.dw_board.specs.Placement as of
use Rattle.dw_board.specs.PieceSets.{set_of, cells_of}
use Rattle.dw_board.proofs.PieceSetLemmas.{kept-left, cells_again, kept-again}
use Rattle.dw_board.proofs.position.Position.clear.Goals as goal

pub invariant_of-self : goal.invariant_of-self
invariant_of-self g c =
    let board = g.B.Board.geometry in
    let cells = cells_of (set_of c.self.inside.held) in
    let now = set_of c.without-self-inside.result in
    kept-again board (put_at cells (c.args.square - 1) None) now
    (kept-left board g.met.B.Board.numbers cells (set_of c.self.inside.held) now c.args.square c.self.invariant
    c.at-stood.ensures.on_board c.without-self-inside.ensures)

pub returns-clause-after : goal.returns-clause-after
returns-clause-after g c =
    let board = g.B.Board.geometry in
    let cells = cells_of (set_of c.self.inside.held) in
    let now = set_of c.without-self-inside.result in
    let again = cells_again board (put_at cells (c.args.square - 1) None) now
    (kept-left board g.met.B.Board.numbers cells (set_of c.self.inside.held) now c.args.square c.self.invariant
    c.at-stood.ensures.on_board c.without-self-inside.ensures) in
    (λ i. record { cells = again i; turn = c.self.inside.turn }) ∙ ap (λ v. of.placed v c.args.square None)
    c.self.view_is
