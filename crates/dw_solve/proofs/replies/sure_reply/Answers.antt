use Rattle.std.proofs.Common.{sym, subst}
use Rattle.dw_moves.specs.Replies.{AlwaysReply}
use Rattle.dw_solve.proofs.replies.sure_reply.Goals as goal

pub returns : goal.returns
returns g c =
    let geo = g.B.Board.geometry in
    let always = c.sure_replies.ensures geo g.met.B.Board.numbers _ c.in_ok-after.ensures.some.2 in (
      c.in_ok-after.field-0-0,
      c.in_ok-after.ensures.legal,
      c.in_ok-after.ensures.after,
      subst (AlwaysReply geo) (sym c.in_ok-after.ensures.after) always,
    )
