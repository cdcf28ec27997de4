use Rattle.dw_page.specs.Pages.{solutions_heading}
use Rattle.dw_page.proofs.page.push_solutions_heading.Goals as goal

pub returns : goal.returns
unfolding solutions_heading
returns c = rw (← c.phrase.ensures) c.in_ok-push_all.ensures
