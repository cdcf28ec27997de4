use Rattle.std.proofs.Common.{Some, sym, ap, ◌∙◌}
use Rattle.dw_list.proofs.PassingLemmas.{first_some}
use Rattle.dw_list.proofs.frame.first_at.Goals as goal

pub returns-then-passed-list : goal.returns-then-passed-list
returns-then-passed-list g c = sym (first_some (λ l. l.step) c.args.list.now c.args.passed c.index-list-passed.result
    c.if-passed-list.true c.index-list-passed.is ∙ ap (λ l. Some l.step) (sym c.item.view_is))
