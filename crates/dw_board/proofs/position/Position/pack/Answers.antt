use Rattle.std.proofs.Common.{◌∙◌, ap}
use Rattle.std.specs.FinSet as set
use Rattle.dw_board.specs.PieceSets.{set_of, cells_of}
use Rattle.dw_board.proofs.PackingLemmas.{packed, packed_again, packed-again}
use Rattle.dw_board.proofs.position.Position.pack.Goals as goal

pub invariant_of-result : goal.invariant_of-result
invariant_of-result g c =
    let geo = g.B.Board.geometry in
    let sets = set_of c.self.inside.held in
    packed-again geo (cells_of sets) c.all_of.result c.all_of-2.result c.or.result
    (packed geo (cells_of sets) sets c.all_of.result c.all_of-2.result c.or.result c.self.invariant c.all_of.ensures
    c.all_of-2.ensures
    (c.or.ensures ∙ (λ i. set.union (c.of.ensures i) (c.of-2.ensures i))))

pub returns : goal.returns
returns g c =
    let geo = g.B.Board.geometry in
    let sets = set_of c.self.inside.held in
    packed_again geo (cells_of sets) c.all_of.result c.all_of-2.result c.or.result
    (packed geo (cells_of sets) sets c.all_of.result c.all_of-2.result c.or.result c.self.invariant c.all_of.ensures
    c.all_of-2.ensures
    (c.or.ensures ∙ (λ i. set.union (c.of.ensures i) (c.of-2.ensures i)))) ∙ ap (λ v. v.cells) c.self.view_is
