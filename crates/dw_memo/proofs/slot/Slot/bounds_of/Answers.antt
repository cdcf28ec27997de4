use Rattle.dw_memo.proofs.KeepingLemmas.{not_kept}
use Rattle.dw_memo.proofs.slot.Slot.bounds_of.Goals as goal

pub returns-else-keeps : goal.returns-else-keeps
returns-else-keeps g c = not_kept c.args.self.now c.args.position.now c.keeps.result c.keeps.ensures c.if-keeps.false
