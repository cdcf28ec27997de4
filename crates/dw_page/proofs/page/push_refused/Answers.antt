use Rattle.std.proofs.Common.{append_assoc}
use Rattle.dw_page.specs.Pages.{refused}
use Rattle.dw_page.proofs.page.push_refused.Goals as goal

pub returns : goal.returns
unfolding refused
returns c =
    rw (
      c.in_ok-push_end_of_problem.ensures,
      c.in_ok-push_refusal.ensures,
      c.in_ok-push_begin.ensures,
      c.none.ensures.author,
      c.none.ensures.source,
    ) (simp append_assoc)
