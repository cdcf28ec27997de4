use Rattle.std.proofs.Common.{refl}
use Rattle.dw_games.specs.inner.Ahead.{token_value}
use Rattle.dw_games.proofs.TakenLemmas.{fault_none_open, taken_closes, none_left}
use Rattle.dw_games.proofs.reader.Reader.close.Goals as goal

pub returns-in_default : goal.returns-in_default
returns-in_default g c = λ p ts h.
    rw c.fault.ensures (
      fault_none_open _ p ts c.args.self.now h (token_value c.args.token) (none_left _ c.in_default.ensures.variant.1)
          c.requires,
      refl,
    )

pub returns : goal.returns
returns g c = λ p ts h.
    taken_closes _ p ts c.args.self.now h (token_value c.args.token) _ c.in-Some.line c.in-Some.ensures.items c.requires
    refl c.after-self.ensures
