use Rattle.std.proofs.Common.{◌≡◌, ◌∙◌, ap}
use Rattle.std.specs.FinSet as set
use Rattle.dw_board.specs.declared.piece.Side.{Side}
use Rattle.dw_board.specs.declared.piece.Kind.{Kind}
use Rattle.dw_board.specs.Placement.{carried}
use Rattle.dw_board.specs.PieceSets.{set_of}
use Rattle.dw_board.proofs.PieceSetLemmas.{kept_placement, cells_again, kept-again}
use Rattle.dw_board.proofs.CarriedLemmas.{kept-moved}
use Rattle.dw_board.proofs.position.Position.carried.Goals as goal

pub invariant_of-result : goal.invariant_of-result
invariant_of-result g c =
    let board = g.B.Board.geometry in
    let before = kept_placement c.self.inside.held c.self.inside.turn in
    let sets = set_of c.self.inside.held in
    let goes : (side : Side) (k : Kind) → set_of c.without-left.result side k
    ≡ set.remove (set.difference (sets side k) (set.insert c.args.taken c.args.from)) c.args.to =
    λ side k. c.without-left.ensures side k ∙ ap (λ v. set.remove v c.args.to) (c.minus.ensures side k
    ∙ ap (set.difference (sets side k)) c.with.ensures) in
    kept-again board (carried board before c.args.from c.args.to c.args.taken).cells (set_of c.with_arrival.result)
    (kept-moved board g.met.B.Board.numbers before sets (set_of c.without-left.result) (set_of c.with_arrival.result)
    c.args.from c.args.to c.args.taken c.self.invariant c.keeps_to_its_board.ensures c.keeps_to_its_board-2.ensures
    goes c.with_arrival.ensures)

pub returns : goal.returns
returns g c =
    let board = g.B.Board.geometry in
    let before = kept_placement c.self.inside.held c.self.inside.turn in
    let sets = set_of c.self.inside.held in
    let goes : (side : Side) (k : Kind) → set_of c.without-left.result side k
    ≡ set.remove (set.difference (sets side k) (set.insert c.args.taken c.args.from)) c.args.to =
    λ side k. c.without-left.ensures side k ∙ ap (λ v. set.remove v c.args.to) (c.minus.ensures side k
    ∙ ap (set.difference (sets side k)) c.with.ensures) in
    let again = cells_again board (carried board before c.args.from c.args.to c.args.taken).cells
    (set_of c.with_arrival.result)
    (kept-moved board g.met.B.Board.numbers before sets (set_of c.without-left.result) (set_of c.with_arrival.result)
    c.args.from c.args.to c.args.taken c.self.invariant c.keeps_to_its_board.ensures c.keeps_to_its_board-2.ensures
    goes c.with_arrival.ensures) in
    (λ i. record { cells = again i; turn = c.self.inside.turn })
    ∙ ap (λ v. carried board v c.args.from c.args.to c.args.taken) c.self.view_is
