use Rattle.std.proofs.lemmas.Result.{on_ok_weaker}
use Rattle.dw_moves.proofs.AddingLemmas.{all_quiet}
use Rattle.dw_moves.proofs.quiet.push_quiet.Goals as goal

pub returns : goal.returns
returns g c =
    on_ok_weaker c.push_kings.result (all_quiet g.B.Board.geometry g.met.B.Board.numbers c.args.position.now
    c.in_ok-push_steps.ensures c.in_ok-push_steps-2.ensures c.in_ok-push_steps-3.ensures c.in_ok-push_steps-4.ensures)
    c.push_kings.ensures
