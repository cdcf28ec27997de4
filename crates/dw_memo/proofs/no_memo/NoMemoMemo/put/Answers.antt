use Rattle.std.proofs.Common.{[], arith}
use Rattle.dw_memo.specs.declared.memo.Noted.TheVariants.{NotKept}
use Rattle.dw_memo.proofs.NoteLemmas.{unchanged, counted_on}
use Rattle.dw_memo.proofs.no_memo.NoMemoMemo.put.Goals as goal

pub returns-clause-note : goal.returns-clause-note
returns-clause-note g c =
    counted_on [] c.args._position.now c.args._bounds NotKept [] 1 c.args.self.now c.saturating_add-self-inside.result
    (unchanged [] c.args._position.now c.args._bounds tt (λ e m. absurd m))
    (omega (arith, c.saturating_add-self-inside.ensures, c.self.view_is))
