use Rattle.std.proofs.Common.{append_assoc}
use Rattle.dw_page.specs.Pictures.{board}
use Rattle.dw_page.proofs.pictures.push_board.Goals as goal

pub returns : goal.returns
unfolding board
returns g c =
    rw (
      c.in_ok-push_frame.ensures,
      c.in_ok-push_outlines.ensures,
      c.in_ok-push_all.ensures,
      c.rows_of.ensures,
    ) (simp append_assoc)
