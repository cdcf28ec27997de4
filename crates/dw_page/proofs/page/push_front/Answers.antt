use Rattle.dw_page.specs.Pages.{front}
use Rattle.dw_page.proofs.page.push_front.Goals as goal

pub returns : goal.returns
unfolding front
returns c = rw (← c.tag.ensures, ← c.policy.ensures) c.in_ok-push_all.ensures
