use Rattle.std.proofs.Common.{append_assoc}
use Rattle.dw_page.specs.Pages.{begin}
use Rattle.dw_page.proofs.page.push_begin.Goals as goal

pub returns : goal.returns
unfolding begin
returns c =
    rw (
      c.in_ok-push_all-2.ensures,
      c.in_ok-push_source.ensures,
      c.in_ok-push_all.ensures,
      c.in_ok-push_author.ensures,
      c.in_ok-push_number.ensures,
    ) (simp append_assoc)
