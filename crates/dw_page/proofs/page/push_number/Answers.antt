use Rattle.dw_page.specs.Pages.{numbered}
use Rattle.dw_page.proofs.page.push_number.Goals as goal

pub returns : goal.returns
unfolding numbered
returns c = rw (← c.format-number.ensures.text) c.in_ok-push_all.ensures
