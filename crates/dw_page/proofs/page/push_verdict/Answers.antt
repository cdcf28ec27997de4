use Rattle.std.proofs.Common.{append_assoc}
use Rattle.dw_page.specs.Pages.{verdict_row}
use Rattle.dw_page.proofs.page.push_verdict.Goals as goal

pub returns : goal.returns
unfolding verdict_row
returns c =
    rw (
      c.in_ok-push_all-2.ensures,
      c.in_ok-push_text.ensures,
      c.in_ok-push_all.ensures,
      c.as_bytes.ensures.value,
    ) (simp append_assoc)
