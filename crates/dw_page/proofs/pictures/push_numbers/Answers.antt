use Rattle.std.proofs.Common.{append_assoc}
use Rattle.dw_page.specs.Pictures.{numbers}
use Rattle.dw_page.proofs.pictures.push_numbers.Goals as goal

pub returns : goal.returns
unfolding numbers
returns g c =
    rw (c.in_ok-push_all-2.ensures, c.in_ok-push_labels.ensures, c.in_ok-push_all.ensures) (simp append_assoc)
