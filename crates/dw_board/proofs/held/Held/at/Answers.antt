use Rattle.std.proofs.Common.{◌∙◌, sym, refl}
use Rattle.dw_board.specs.PieceSets.{set_of}
use Rattle.dw_board.proofs.PieceSetLemmas.{held_at-none, held_at-last}
use Rattle.dw_board.proofs.held.Held.at.Goals as goal

pub returns-then-not-has : goal.returns-then-not-has
returns-then-not-has g c = held_at-none (set_of c.args.self.now) c.args.square c.has.result (c.has.ensures
    ∙ rw c.occupied.ensures refl) c.if-not-has.true

pub returns-else-has-3 : goal.returns-else-has-3
returns-else-has-3 g c =
    held_at-last (set_of c.args.self.now) c.args.square c.has.result (c.has.ensures ∙ rw c.occupied.ensures refl)
    c.if-not-has.false
    (sym c.has-2.ensures ∙ c.if-has.false) (sym c.has-else-has.ensures ∙ c.if-has-2.false) (sym c.has-else-has-2.ensures
    ∙ c.if-has-3.false)
