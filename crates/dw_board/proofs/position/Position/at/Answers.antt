use Rattle.std.proofs.Common.{◌∙◌, ap, sym, arith}
use Rattle.dw_board.specs.Placement as of
use Rattle.dw_board.specs.PieceSets.{set_of}
use Rattle.dw_board.proofs.PieceSetLemmas.{cell_of}
use Rattle.dw_board.proofs.position.Position.at.Goals as goal

pub returns-clause-value : goal.returns-clause-value
returns-clause-value g c =
    let on = c.keeps_to_its_board.ensures in
    let few = g.met.B.Board.numbers.squares_high in
    c.at.ensures ∙ (sym (cell_of (set_of c.self.inside.held) c.args.square on.0 (let high = on.1 in omega arith))
    ∙ ap (λ v. of.at v c.args.square) c.self.view_is)
