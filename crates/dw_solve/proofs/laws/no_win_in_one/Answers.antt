use Rattle.dw_solve.proofs.WinLemmas.{replied_no_win}
use Rattle.dw_solve.proofs.laws.no_win_in_one.Goals as goal

pub returns : goal.returns
returns c = record { replied = replied_no_win; sure = λ g b p h. replied_no_win g p (c.sure_replies.ensures g b p h) }
