use Rattle.std.proofs.Common.{append_assoc}
use Rattle.dw_page.proofs.moves.push_move.Goals as goal

pub returns : goal.returns
returns g c =
    rw (
      c.in_ok-push_all-2.ensures,
      c.in_ok-push_text.ensures,
      c.as_bytes.ensures.value,
      c.in_ok-push_all.ensures,
      c.as_str.ensures.value,
      c.fen_text.ensures,
    ) (simp append_assoc)
