use Rattle.std.proofs.Common.{append_assoc}
use Rattle.dw_page.specs.Pages.{head}
use Rattle.dw_page.proofs.page.push_head.Goals as goal

pub returns : goal.returns
unfolding head
returns g c =
    rw (
      c.in_ok-push_all-2.ensures,
      c.in_ok-push_pictures.ensures,
      c.in_ok-push_all.ensures,
      c.in_ok-push_text-2.ensures,
      c.in_ok-push_style.ensures,
      c.in_ok-push_text.ensures,
      c.in_ok-push_front.ensures,
      c.as_bytes.ensures.value,
      c.as_bytes-2.ensures.value,
    ) (simp append_assoc)
