use Rattle.std.proofs.Common.{subst}
use Rattle.dw_memo.specs.Choice.{content_of}
use Rattle.dw_memo.specs.Content.{SameEntries}
use Rattle.dw_commands.proofs.memo.LeakedMemoMemo.skip_one_move.Goals as goal

pub returns-clause-same : goal.returns-clause-same
returns-clause-same g c =
    subst (λ m. SameEntries (content_of m) (content_of c.skip_one_move.new.self)) c.self.view_is
    c.skip_one_move.ensures.same
