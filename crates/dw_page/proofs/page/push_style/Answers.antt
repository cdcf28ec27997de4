use Rattle.dw_page.specs.Pages.{styled}
use Rattle.dw_page.proofs.page.push_style.Goals as goal

pub returns : goal.returns
unfolding styled
returns c = rw (← c.style.ensures) c.in_ok-push_all.ensures
