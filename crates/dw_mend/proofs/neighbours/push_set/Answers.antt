use Rattle.std.proofs.Common.{map}
use Rattle.dw_mend.specs.Changes.{set}
use Rattle.dw_mend.specs.Telling.{told}
use Rattle.dw_mend.proofs.ListLemmas.{flat_next}
use Rattle.dw_mend.proofs.neighbours.push_set.Goals as goal

pub squares-preserved : goal.squares-preserved
squares-preserved g c =
    flat_next (λ s. map (set s) c.args.squares.now) (map told c.args.list.now.items) (map told c.squares.list.items)
    (map told c.push_set_from.new.list.items) c.args.squares.now c.squares.square-index c.square-item.result
    c.squares-test.true c.square-item.is c.squares.invariant c.in_ok-push_set_from.ensures
