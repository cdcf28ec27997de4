use Rattle.std.proofs.Common.{subst}
use Rattle.dw_memo.specs.Choice.{content_of}
use Rattle.dw_memo.specs.Content.{SameEntries}
use Rattle.dw_commands.proofs.memo.LeakedMemoMemo.look.Goals as goal

pub returns-clause-same : goal.returns-clause-same
returns-clause-same g c =
    subst (λ m. SameEntries (content_of m) (content_of c.look.new.self)) c.self.view_is c.look.ensures.same
