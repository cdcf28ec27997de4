use Rattle.dw_memo.proofs.PairLemmas.{not_kept}
use Rattle.dw_memo.proofs.pair.contend.Goals as goal

pub returns-then-worth-gt-LITTLE-clause-note : goal.returns-then-worth-gt-LITTLE-clause-note
returns-then-worth-gt-LITTLE-clause-note g c = not_kept c.args.lesser.now c.args.position.now c.args.bounds c.requires
