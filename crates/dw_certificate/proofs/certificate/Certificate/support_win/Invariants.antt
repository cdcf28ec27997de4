use Rattle.std.proofs.Common.{◌≡◌}
use Rattle.dw_certificate.proofs.certificate.Certificate.support_win.Given as goal

abbrev pub invariant-moves : goal.invariant-moves
invariant-moves g l = l.self ≡ l.initial.self
