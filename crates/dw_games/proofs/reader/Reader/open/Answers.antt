use Rattle.std.proofs.Common.{refl}
use Rattle.dw_games.specs.inner.Ahead.{token_value}
use Rattle.dw_games.proofs.TakenLemmas.{fault_no_move, fault_deep, taken_opens, full_length, not_full}
use Rattle.dw_games.proofs.reader.Reader.open.Goals as goal

pub returns-in_default : goal.returns-in_default
returns-in_default g c = λ p ts h.
    rw c.fault.ensures (
      fault_no_move _ p ts c.args.self.now h (token_value c.args.token) c.in_default.is c.requires,
      refl,
    )

pub returns-then-is_full : goal.returns-then-is_full
returns-then-is_full g c = λ p ts h.
    rw c.fault-then-is_full.ensures (
      fault_deep _ p ts c.args.self.now h (token_value c.args.token) c.in-Some.before
          c.in-Some.is (full_length _ c.if-is_full.ensures.value) c.requires,
      refl,
    )

pub returns : goal.returns
returns g c = λ p ts h.
    taken_opens _ p ts c.args.self.now h (token_value c.args.token) _ c.in-Some.before c.in-Some.is
    (not_full _ c.if-is_full.ensures.value c.if-is_full.ensures.fits) c.requires refl
    c.in_parentheses-self.ensures c.push.ensures.items
