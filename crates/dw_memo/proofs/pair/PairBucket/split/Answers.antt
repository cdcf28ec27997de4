use Rattle.dw_memo.specs.inner.Slots.{standing}
use Rattle.dw_memo.proofs.PairLemmas.{split_both}
use Rattle.dw_memo.proofs.pair.PairBucket.split.Goals as goal

pub returns : goal.returns
returns g c = split_both g.B.Board.geometry c.args.buckets c.args.index (standing c.args.self.now.first)
    (standing c.args.self.now.second) (standing c.split-first.result.0) (standing c.split-second.result.0)
    (standing c.split-first.result.1) (standing c.split-second.result.1) c.requires.map c.split-first.ensures
    c.split-second.ensures
