use Rattle.std.proofs.lemmas.Result.{on_ok_weaker}
use Rattle.dw_moves.proofs.KeeperLemmas.{held_past, moves_alike}
use Rattle.dw_moves.proofs.legal.LongestMovesKeeper.offer.Goals as goal

pub returns-then-self-count-clause-kept : goal.returns-then-self-count-clause-kept
returns-then-self-count-clause-kept g c = λ path on first xs h.
    held_past xs (record { step = c.args.mv.now; path = path }) c.args.self.now.most c.args.count c.requires
    c.if-self-count.true h moves_alike

pub returns-clause-kept : goal.returns-clause-kept
returns-clause-kept g c = on_ok_weaker c.keep.result (λ kept path on first xs h. kept xs path h) c.keep.ensures
