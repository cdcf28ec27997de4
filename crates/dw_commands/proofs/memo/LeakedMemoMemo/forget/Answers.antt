use Rattle.std.proofs.Common.{subst}
use Rattle.dw_memo.specs.Choice.{content_of}
use Rattle.dw_memo.specs.Content.{MayForget}
use Rattle.dw_commands.proofs.memo.LeakedMemoMemo.forget.Goals as goal

pub returns-clause-forgets : goal.returns-clause-forgets
returns-clause-forgets g c =
    subst (λ m. MayForget (content_of m) (content_of c.forget.new.self)) c.self.view_is c.forget.ensures.forgets
