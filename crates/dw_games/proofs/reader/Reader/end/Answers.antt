use Rattle.std.proofs.Common.{refl}
use Rattle.dw_games.specs.inner.Ahead.{token_value}
use Rattle.dw_games.proofs.TakenLemmas.{fault_within}
use Rattle.dw_games.proofs.reader.Reader.end.Goals as goal

pub returns-then-is_within : goal.returns-then-is_within
returns-then-is_within g c = λ p ts h.
    rw c.fault.ensures (
      fault_within _ p ts c.args.self.now h (token_value c.args.token) c.requires
          (c.is_within.ensures.0 c.if-is_within.true),
      refl,
    )
