use Rattle.dw_page.specs.Pages.{end}
use Rattle.dw_page.proofs.page.push_end.Goals as goal

pub returns : goal.returns
unfolding end
returns c = rw (← c.script.ensures) c.in_ok-push_all.ensures
