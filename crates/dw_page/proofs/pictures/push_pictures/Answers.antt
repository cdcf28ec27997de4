use Rattle.std.proofs.Common.{append_assoc}
use Rattle.dw_page.specs.Pictures.{pictures}
use Rattle.dw_page.proofs.pictures.push_pictures.Goals as goal

pub returns : goal.returns
unfolding pictures
returns g c =
    rw (
      c.in_ok-push_all-2.ensures,
      c.in_ok-push_numbers.ensures,
      c.in_ok-push_board.ensures,
      c.in_ok-push_all.ensures,
      c.pieces.ensures,
    ) (simp append_assoc)
