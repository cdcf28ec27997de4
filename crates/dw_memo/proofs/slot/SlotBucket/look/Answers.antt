use Rattle.std.proofs.Common.{sym, subst}
use Rattle.dw_memo.specs.Content.{IsFound}
use Rattle.dw_memo.specs.inner.Slots.{standing}
use Rattle.dw_memo.proofs.SlotLemmas.{found}
use Rattle.dw_memo.proofs.slot.SlotBucket.look.Goals as goal

pub returns : goal.returns
returns g c = subst (IsFound (standing c.args.self.now) c.args.position.now) (sym c.bounds_of.ensures)
    (found c.args.self.now c.args.position.now)
