use Rattle.std.proofs.Common.{append_assoc, refl}
use Rattle.dw_page.specs.Pages.{solution_begin}
use Rattle.dw_page.proofs.page.push_solution_begin.Goals as goal

pub returns-in_ok-push_all-2 : goal.returns-in_ok-push_all-2
unfolding solution_begin
returns-in_ok-push_all-2 c =
    rw (c.in_ok-push_all-2.ensures, c.in_ok-push_all.ensures, c.format-number.ensures.text, c.if-is_apart.true)
    (simp append_assoc)

pub returns-else-is_apart : goal.returns-else-is_apart
unfolding solution_begin
returns-else-is_apart c =
    rw (c.in_ok-push_all.ensures, c.format-number.ensures.text, c.if-is_apart.false) refl
