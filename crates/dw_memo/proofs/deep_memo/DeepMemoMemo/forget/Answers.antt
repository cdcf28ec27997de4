use Rattle.std.proofs.Common.{subst}
use Rattle.dw_memo.specs.Content.{MayForget}
use Rattle.dw_memo.specs.Holding.{Holding}
use Rattle.dw_memo.proofs.deep_memo.DeepMemoMemo.forget.Goals as goal

pub returns-clause-forgets : goal.returns-clause-forgets
returns-clause-forgets g c =
    subst (λ (h : Holding). MayForget h.content c.forget.new.self.content) c.self.view_is c.forget.ensures.forgets
