use Rattle.std.proofs.Common.{append_assoc}
use Rattle.dw_page.specs.Pages.{refusal}
use Rattle.dw_page.proofs.page.push_refusal.Goals as goal

pub returns : goal.returns
unfolding refusal
returns c =
    rw (
      c.in_ok-push_all-2.ensures,
      c.in_ok-push_text.ensures,
      c.in_ok-push_all.ensures,
      c.phrase-label.ensures,
      c.as_bytes.ensures.value,
    ) (simp append_assoc)
