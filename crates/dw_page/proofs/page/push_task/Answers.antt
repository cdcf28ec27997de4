use Rattle.dw_page.specs.Pages.{task}
use Rattle.dw_page.proofs.page.push_task.Goals as goal

pub returns : goal.returns
unfolding task
returns g c = rw (
  ← c.turn.ensures.value,
  ← c.task.ensures,
  ← c.format.ensures.text,
  ← c.moves.ensures,
) c.in_ok-push_all.ensures
